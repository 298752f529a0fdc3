-- The words of reads: that they are below 4 ^ k and in the forms under which they count, that occurrences are counts in
-- their list, and how many there are.
use Rattle.std.proofs.Common.{◌≡◌, ℕ, zero, suc, ◌+◌, ◌^◌, ◌<◌, ◌≤◌, ⊎_elim, Bool, true, false, ◌&&◌, cond, eqb, leb, List, [], ◌∷◌, ◌++◌, map, length, get_or, take, drop, Option, Some, None, option_map, filter_map, sum_by, count_by, MatchOption, All, refl, ap, sym, ◌∙◌, subst, arith, eq-eqb, ne_eqb, zero-add}
use Rattle.std.proofs.lemmas.Bool.{false_from_ne_true, cases_eq, and_parts, and_from, leb-true}
use Rattle.std.proofs.lemmas.List.{length-map, length-take-le, length-drop, drop_more, length-append}
use Rattle.std.proofs.lemmas.List.Sums.{sum_by-cons, sum_by-append}
use Rattle.std.proofs.lemmas.List.FromFn.{length-range_with_len}
use Rattle.std.proofs.lemmas.Slice.Eq.{bytes_eq-Decides}
use Rattle.std.specs.List.{list_all, range_with_len, cons_option}
use Rattle.std.specs.Option.{option_map_or, option_and_then}
use Rattle.std.specs.Str.{bytes_eq}
use Rattle.std.specs.Char.{to_ascii_uppercase}
use Rattle.kc_lemmas.proofs.Lists.{length-filter_map, All-filter_map, All-flat_map}
use Rattle.kc_fastx.specs.Reads.{Read}
use Rattle.kc_kmer.specs.Letter.{is_base, are_bases}
use Rattle.kc_kmer.specs.Word.{number, text, form}
use Rattle.kc_kmer.specs.Rule.{CountingRule, is_listed}
use Rattle.kc_kmer.specs.Occurrences.{is_usable, passes_floor, word_at, form_at, where_listed, counted_at, positions, position_count, occurrences_in, occurrences, words_in, words_of}
use Rattle.kc_kmer.proofs.WordLemmas.{number-lt, text-number, number-text, length-form, are_bases-form, canonical-twice}

-- ---- a word at a position is a word of k bases

-- a word of k bases
pub record IsWord (k : ℕ) (word : List ℕ) : Type 0 where
  pub long : length word ≡ k
  pub bases : are_bases word ≡ true

pub bases-usable : (rule : CountingRule) (read : Read) (k p : ℕ) → p + k ≤ length read.bases → list_all (λ j. is_usable rule read j) (range_with_len p k) ≡ true → are_bases (map to_ascii_uppercase (take k (drop p read.bases))) ≡ true
unfolding is_usable
bases-usable rule read zero p h all = refl
bases-usable rule read (suc k) p h all =
    let parts = and_parts (is_usable rule read p) (list_all (λ j. is_usable rule read j) (range_with_len (p + 1) k)) all in
    let base = (and_parts (is_base (to_ascii_uppercase (get_or read.bases p 0))) (passes_floor rule.floor read.quals p) parts.0).0 in
    ap (λ xs. are_bases (map to_ascii_uppercase (take (suc k) xs))) (drop_more read.bases p 0 (omega (arith, h)))
    ∙ and_from (is_base (to_ascii_uppercase (get_or read.bases p 0))) _ base (bases-usable rule read k (p + 1) (omega (arith, h)) parts.1)

word_at-IsWord : (rule : CountingRule) (read : Read) (p : ℕ) → MatchOption (word_at rule read p) (Unit {0}) (IsWord rule.k)
unfolding word_at
word_at-IsWord rule read p =
    by (leb (p + rule.k) (length read.bases)) (list_all (λ j. is_usable rule read j) (range_with_len p rule.k)) refl refl
  where
    by : (a b : Bool) → leb (p + rule.k) (length read.bases) ≡ a → list_all (λ j. is_usable rule read j) (range_with_len p rule.k) ≡ b
        → MatchOption (cond (a && b) (Some (map to_ascii_uppercase (take rule.k (drop p read.bases)))) None) (Unit {0}) (IsWord rule.k)
    by true true e f =
        let fits = leb-true (p + rule.k) (length read.bases) e in
        let rest = length-drop p read.bases in
        record {
          long = length-map (take rule.k (drop p read.bases)) to_ascii_uppercase ∙ length-take-le rule.k (drop p read.bases) (omega (arith, fits, rest));
          bases = bases-usable rule read rule.k p fits f;
        }
    by true false e f = tt
    by false b e f = tt

form-twice : (both : Bool) (word : List ℕ) → are_bases word ≡ true → form both (form both word) ≡ form both word
unfolding form
form-twice false word bases = refl
form-twice true word bases = canonical-twice word bases

-- a word of k bases in the form under which it counts
pub record IsForm (rule : CountingRule) (word : List ℕ) : Type 0 where
  pub is : IsWord rule.k word
  pub kept : form rule.both word ≡ word

pub form_at-IsForm : (rule : CountingRule) (read : Read) (p : ℕ) → MatchOption (form_at rule read p) (Unit {0}) (IsForm rule)
unfolding form_at
form_at-IsForm rule read p = by (word_at rule read p) (word_at-IsWord rule read p)
  where
    by : (o : Option (List ℕ)) → MatchOption o (Unit {0}) (IsWord rule.k) → MatchOption (option_map (form rule.both) o) (Unit {0}) (IsForm rule)
    by None is = tt
    by (Some word) is = record {
      is = record { long = length-form rule.both word ∙ is.long; bases = are_bases-form rule.both word is.bases };
      kept = form-twice rule.both word is.bases;
    }

-- a position counts under a word of k bases in its form, if it does
pub counted_at-IsForm : (rule : CountingRule) (read : Read) (p : ℕ) → MatchOption (counted_at rule read p) (Unit {0}) (IsForm rule)
unfolding counted_at
counted_at-IsForm rule read p = by (form_at rule read p) (form_at-IsForm rule read p)
  where
    pick : (b : Bool) (word : List ℕ) → IsForm rule word → MatchOption (cond b (Some word) None) (Unit {0}) (IsForm rule)
    pick true word form = form
    pick false word form = tt

    by : (o : Option (List ℕ)) → MatchOption o (Unit {0}) (IsForm rule) → MatchOption (option_and_then (where_listed rule.only) o) (Unit {0}) (IsForm rule)
    by None form = tt
    by (Some word) form = pick (is_listed rule.only (number word)) word form

counted_at-IsWord : (rule : CountingRule) (read : Read) (p : ℕ) → MatchOption (counted_at rule read p) (Unit {0}) (IsWord rule.k)
counted_at-IsWord rule read p = by (counted_at rule read p) (counted_at-IsForm rule read p)
  where
    by : (o : Option (List ℕ)) → MatchOption o (Unit {0}) (IsForm rule) → MatchOption o (Unit {0}) (IsWord rule.k)
    by None form = tt
    by (Some word) form = form.is

-- ---- the words of reads are below 4 ^ k, and are in the form under which they count

-- what holds for the number of each word in its form holds for the words of reads
all-in : (rule : CountingRule) (P : ℕ → Type 0) → ((word : List ℕ) → IsForm rule word → P (number word)) → (read : Read) → All P (words_in rule read)
unfolding words_in
all-in rule P holds read =
    All-filter_map P (λ p. option_map number (counted_at rule read p)) (positions rule read) (λ i d within.
    let p : ℕ = get_or (positions rule read) i d in by (counted_at rule read p) (counted_at-IsForm rule read p))
  where
    by : (o : Option (List ℕ)) → MatchOption o (Unit {0}) (IsForm rule) → MatchOption (option_map number o) (Unit {0}) P
    by None is = tt
    by (Some word) is = holds word is

all-of : (rule : CountingRule) (P : ℕ → Type 0) → ((word : List ℕ) → IsForm rule word → P (number word)) → (reads : List Read) → All P (words_of rule reads)
unfolding words_of
all-of rule P holds reads = All-flat_map P (words_in rule) reads (λ i d within. all-in rule P holds (get_or reads i d))

number-below : (rule : CountingRule) (word : List ℕ) → IsForm rule word → number word < 4 ^ rule.k
number-below rule word h = subst (λ n. number word < 4 ^ n) h.is.long (number-lt word)

-- each word of a read is below 4 ^ k
pub All-words_in : (rule : CountingRule) (read : Read) → All (λ n. n < 4 ^ rule.k) (words_in rule read)
All-words_in rule read = all-in rule (λ n. n < 4 ^ rule.k) (number-below rule) read

-- each word of reads is below 4 ^ k
pub All-words_of : (rule : CountingRule) (reads : List Read) → All (λ n. n < 4 ^ rule.k) (words_of rule reads)
All-words_of rule reads = all-of rule (λ n. n < 4 ^ rule.k) (number-below rule) reads

-- each word of reads is in the form under which it counts
pub All-forms : (rule : CountingRule) (reads : List Read) → All (λ n. form rule.both (text rule.k n) ≡ text rule.k n) (words_of rule reads)
All-forms rule reads =
    all-of rule (λ n. form rule.both (text rule.k n) ≡ text rule.k n) (λ word h.
    let same = text-number rule.k word h.is.long h.is.bases in ap (form rule.both) same ∙ h.kept ∙ sym same) reads

-- ---- occurrences are counts in the list of all words

-- how often a number occurs in a list
abbrev pub times : ℕ → List ℕ → ℕ
times n xs = count_by (λ m. eqb m n) xs

same_word : (k n : ℕ) (word : List ℕ) → n < 4 ^ k → IsWord k word → eqb (number word) n ≡ bytes_eq word (text k n)
same_word k n word h is =
    let decides = bytes_eq-Decides word (text k n) in
    ⊎_elim
    (λ e. eq-eqb (number word) n e ∙ sym (decides.1 (sym (text-number k word is.long is.bases) ∙ ap (text k) e)))
    (λ ne. ne_eqb (number word) n ne ∙ sym (false_from_ne_true (bytes_eq word (text k n)) (λ t. ne (ap number (decides.0 t) ∙ number-text k n h))))
    (cases_eq (number word) n)

times-filter_map : (k n : ℕ) (f : ℕ → Option (List ℕ)) → n < 4 ^ k → ((p : ℕ) → MatchOption (f p) (Unit {0}) (IsWord k)) → (ps : List ℕ) → times n (filter_map (λ p. option_map number (f p)) ps) ≡ count_by (λ p. option_map_or (λ found. bytes_eq found (text k n)) (f p) false) ps
times-filter_map k n f h each [] = refl
times-filter_map k n f h each (p ∷ ps) =
    by (f p) (each p) (times-filter_map k n f h each ps) ∙ sym (sum_by-cons (λ q. cond (option_map_or (λ found. bytes_eq found (text k n)) (f q) false) 1 0) p ps)
  where
    by : (o : Option (List ℕ)) → MatchOption o (Unit {0}) (IsWord k) → times n (filter_map (λ q. option_map number (f q)) ps) ≡ count_by (λ q. option_map_or (λ found. bytes_eq found (text k n)) (f q) false) ps → times n (cons_option (option_map number o) (filter_map (λ q. option_map number (f q)) ps)) ≡ cond (option_map_or (λ found. bytes_eq found (text k n)) o false) 1 0 + count_by (λ q. option_map_or (λ found. bytes_eq found (text k n)) (f q) false) ps
    by None is rest = rest ∙ sym (zero-add _)
    by (Some word) is rest =
        sum_by-cons (λ m. cond (eqb m n) 1 0) (number word) (filter_map (λ q. option_map number (f q)) ps)
        ∙ ap (λ m. cond (eqb (number word) n) 1 0 + m) rest
        ∙ ap (λ b. cond b 1 0 + count_by (λ q. option_map_or (λ found. bytes_eq found (text k n)) (f q) false) ps) (same_word k n word h is)

times-words_in : (rule : CountingRule) (read : Read) (n : ℕ) → n < 4 ^ rule.k → times n (words_in rule read) ≡ occurrences_in rule read (text rule.k n)
unfolding words_in occurrences_in
times-words_in rule read n h = times-filter_map rule.k n (counted_at rule read) h (counted_at-IsWord rule read) (positions rule read)

-- a word occurs as often as its number does in the list of all words
pub times-words_of : (rule : CountingRule) (reads : List Read) (n : ℕ) → n < 4 ^ rule.k → times n (words_of rule reads) ≡ occurrences rule reads (text rule.k n)
unfolding words_of occurrences
times-words_of rule [] n h = refl
times-words_of rule (read ∷ reads) n h =
    sum_by-append (λ m. cond (eqb m n) 1 0) (words_in rule read) (words_of rule reads)
    ∙ ap (λ m. m + times n (words_of rule reads)) (times-words_in rule read n h)
    ∙ ap (λ m. occurrences_in rule read (text rule.k n) + m) (times-words_of rule reads n h)
    ∙ sym (sum_by-cons (λ r. occurrences_in rule r (text rule.k n)) read reads)

-- ---- joined reads

pub occurrences-append : (rule : CountingRule) (reads more : List Read) (word : List ℕ) → occurrences rule (reads ++ more) word ≡ occurrences rule reads word + occurrences rule more word
unfolding occurrences
occurrences-append rule reads more word = sum_by-append (λ read. occurrences_in rule read word) reads more

-- ---- how many words there are

pub length-words_in : (rule : CountingRule) (read : Read) → 1 ≤ rule.k → length (words_in rule read) ≤ length read.bases
unfolding words_in
length-words_in rule read some =
    let fewer = length-filter_map (λ p. option_map number (counted_at rule read p)) (positions rule read) in
    let long = length-range_with_len 0 (position_count rule.k (length read.bases)) in
    omega (arith, fewer, long, some)

-- all words together are at most as many as the bases
pub length-words_of : (rule : CountingRule) (reads : List Read) → 1 ≤ rule.k → length (words_of rule reads) ≤ sum_by (λ read. length read.bases) reads
unfolding words_of
length-words_of rule [] some = omega arith
length-words_of rule (read ∷ reads) some =
    let rest = length-words_of rule reads some in
    let this = length-words_in rule read some in
    let joined = length-append (words_in rule read) (words_of rule reads) in
    let sum = sum_by-cons (λ (r : Read). length r.bases) read reads in
    omega (arith, rest, this, joined, sum)
