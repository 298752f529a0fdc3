-- A list of words, to which a count may be restricted.
-- Source: the option --if of the Jellyfish user guide.
use Rattle.std.specs.Prelude.{◌≡◌, ℕ, Bool, ◌<◌, ◌≤◌, ◌^◌, ◌↔◌, ◌==◌, ◌&&◌, List}
use Rattle.std.specs.Prelude.{All, Contains}
use Rattle.std.specs.Bool.{beq}
use Rattle.std.specs.List.Sorted.{IsStrictlyIncreasing}
use Rattle.std.specs.Str.{bytes_eq}
use Rattle.kc_fastx.specs.Reads.{Read}
use Rattle.kc_kmer.specs.Word.{text}
use Rattle.kc_kmer.specs.Rule.{CountingRule}
use Rattle.kc_kmer.specs.Occurrences.{occurrences}

-- a list of words as a value: their length, whether both strands count, and the numbers of the words
pub record WordList : Type 0 where
  pub k : ℕ
  pub both : Bool
  pub words : List ℕ

-- numbers of words of k bases in strictly ascending order: each occurs once, and two lists with the same words are
-- equal
pub record AreListed (k : ℕ) (words : List ℕ) : Type 0 where
  pub rising : IsStrictlyIncreasing words
  pub below : All (λ word. word < 4 ^ k) words

-- the list has exactly the words that occur in the reads, at least once
pub record IsListOf (rule : CountingRule) (reads : List Read) (list : WordList) : Type 0 where
  pub k : list.k ≡ rule.k
  pub both : list.both ≡ rule.both
  pub listed : AreListed rule.k list.words
  pub words : (n : ℕ) → n < 4 ^ rule.k → Contains list.words n ↔ (1 ≤ occurrences rule reads (text rule.k n))

-- whether two lists have the same words, the same length of words and the same strands
abbrev pub is_same_list : WordList → WordList → Bool
is_same_list list other = (list.k == other.k) && (beq list.both other.both && bytes_eq list.words other.words)

-- the words that occur in reads have only one list
abbrev pub OneList : Type 0
OneList = (rule : CountingRule) (reads : List Read) (list other : WordList) → IsListOf rule reads list
    → IsListOf rule reads other → list ≡ other
