-- Facts about words and their occurrences, for all reads.
use Rattle.std.specs.Prelude.{◌≡◌, ℕ, ◌+◌, ◌^◌, ◌<◌, ◌≤◌, ◌==◌, List, ◌++◌, map, filter, length, count_by, IsTrue, All}
use Rattle.std.specs.Prelude.{if◌then◌else◌}
use Rattle.std.specs.Char.{to_ascii_uppercase}
use Rattle.std.specs.Ordering.{nat_cmp}
use Rattle.std.specs.Cmp.Lexicographic.{slice_cmp}
use Rattle.kc_fastx.specs.Reads.{Read, base_count}
use Rattle.kc_kmer.specs.Letter.{are_bases}
use Rattle.kc_kmer.specs.Word.{number, text, reverse_complement, canonical, form}
use Rattle.kc_kmer.specs.Rule.{CountingRule, is_listed, without_list}
use Rattle.kc_kmer.specs.Occurrences.{occurrences, words_of}

-- a number below 4 ^ k is the number of its text
abbrev pub NumberOfText : Type 0
NumberOfText = (k n : ℕ) → n < 4 ^ k → number (text k n) ≡ n

-- the letters of a word below 4 ^ k are bases, and no other word below 4 ^ k has them: `pack` inverts `text`
abbrev pub PackedText : Type 0
PackedText = (k n : ℕ) → n < 4 ^ k → IsTrue (are_bases (map to_ascii_uppercase (text k n)))
    × ((m : ℕ) → m < 4 ^ k → text k m ≡ map to_ascii_uppercase (text k n) → m ≡ n)

-- the order of the numbers is the order of the texts
abbrev pub OrderOfTexts : Type 0
OrderOfTexts = (k m n : ℕ) → m < 4 ^ k → n < 4 ^ k → slice_cmp nat_cmp (text k m) (text k n) ≡ nat_cmp m n

-- the reverse complement of the reverse complement is the word itself
abbrev pub ReversedTwice : Type 0
ReversedTwice = (k n : ℕ) → reverse_complement (reverse_complement (text k n)) ≡ text k n

-- a word and its reverse complement have the same canonical form
abbrev pub OneCanonicalForm : Type 0
OneCanonicalForm = (k n : ℕ) → canonical (reverse_complement (text k n)) ≡ canonical (text k n)

-- in joined reads each word occurs as often as in both parts together
abbrev pub JoinedOccurrences : Type 0
JoinedOccurrences = (rule : CountingRule) (reads more : List Read) (word : List ℕ)
    → occurrences rule (reads ++ more) word ≡ occurrences rule reads word + occurrences rule more word

-- a word below 4 ^ k occurs as often as its number does among the words of the reads
abbrev pub CountedWords : Type 0
CountedWords = (rule : CountingRule) (reads : List Read) (n : ℕ) → n < 4 ^ rule.k
    → count_by (λ m. m == n) (words_of rule reads) ≡ occurrences rule reads (text rule.k n)

-- a listed word occurs as often as it does without the list, and every other word 0 times
abbrev pub ListedOccurrences : Type 0
ListedOccurrences = (rule : CountingRule) (reads : List Read) (word : List ℕ) → occurrences rule reads word
    ≡ (if is_listed rule.only (number word) then occurrences (without_list rule) reads word else 0)

-- the words of the reads are the listed ones among those without the list, in order
abbrev pub ListedWords : Type 0
ListedWords = (rule : CountingRule) (reads : List Read)
    → words_of rule reads ≡ filter (λ word. is_listed rule.only word) (words_of (without_list rule) reads)

-- the number of each word of the reads is below 4 ^ k
abbrev pub WordsAreBelow : Type 0
WordsAreBelow = (rule : CountingRule) (reads : List Read) → All (λ word. word < 4 ^ rule.k) (words_of rule reads)

-- each word of the reads is in the form under which it counts
abbrev pub WordsAreForms : Type 0
WordsAreForms = (rule : CountingRule) (reads : List Read)
    → All (λ word. form rule.both (text rule.k word) ≡ text rule.k word) (words_of rule reads)

-- the reads have at most as many words as bases
abbrev pub WordsAreFew : Type 0
WordsAreFew = (rule : CountingRule) (reads : List Read) → 1 ≤ rule.k → length (words_of rule reads) ≤ base_count reads
