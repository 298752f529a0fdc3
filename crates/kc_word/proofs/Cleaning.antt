-- A cleaned read: as long as the read, with the same words at the same positions.
use Rattle.std.proofs.Common.{◌≡◌, ℕ, zero, suc, ◌+◌, ◌<◌, ◌≤◌, ⊎_elim, Bool, true, false, ◌&&◌, ◌||◌, cond, eqb, leb, List, [], ◌∷◌, ◌++◌, map, length, get_or, take, drop, Some, None, option_map, option_and_then, filter_map, sum_by, count_by, refl, ap, sym, ◌∙◌, arith}
use Rattle.std.proofs.lemmas.Bool.{cases_Bool, cases_lt, cond-true, cond-false, cond_both, and_parts, and_from, and_left, or_left, lt-leb}
use Rattle.std.proofs.lemmas.List.{drop_more}
use Rattle.std.proofs.lemmas.List.Sums.{sum_by-cons}
use Rattle.std.specs.Option.{option_map_or}
use Rattle.std.specs.Str.{bytes_eq}
use Rattle.std.proofs.lemmas.List.FromFn.{length-map-range_with_len, get_or-map-range_with_len}
use Rattle.std.specs.List.{list_all, range_with_len, flat_map}
use Rattle.std.specs.Char.{to_ascii_uppercase}
use Rattle.kc_fastx.specs.Reads.{Read, read_of}
use Rattle.kc_kmer.specs.Letter.{is_base}
use Rattle.kc_kmer.specs.Word.{number, form}
use Rattle.kc_kmer.specs.Rule.{CountingRule}
use Rattle.kc_kmer.specs.Occurrences.{is_usable, passes_floor, word_at, form_at, where_listed, counted_at, positions, position_count, counts_under, occurrences_in, occurrences, words_in, words_of}
use Rattle.kc_word.specs.Cutting.{unusable, are_piece_bytes, cleaned_base, cleaned, as_reads}
use Rattle.kc_kmer.proofs.WordLemmas.{at_base}

upper-base : (byte : ℕ) → is_base byte ≡ true → to_ascii_uppercase byte ≡ byte
upper-base = at_base (λ b. to_ascii_uppercase b ≡ b) refl refl refl refl

pub length-cleaned : (rule : CountingRule) (read : Read) → length (cleaned rule read) ≡ length read.bases
unfolding cleaned
length-cleaned rule read = length-map-range_with_len (λ j. cleaned_base rule read j) 0 (length read.bases)

pub get_or-cleaned : (rule : CountingRule) (read : Read) (j : ℕ) → j < length read.bases → get_or (cleaned rule read) j 0 ≡ cleaned_base rule read j
unfolding cleaned
get_or-cleaned rule read j h = get_or-map-range_with_len (λ i. cleaned_base rule read i) 0 (length read.bases) j j 0 h (omega arith)

-- ---- the bytes of a cleaned read

list_all-map-all : {X Y : Type 0} (p : Y → Bool) (f : X → Y) → ((x : X) → p (f x) ≡ true) → (xs : List X) → list_all p (map f xs) ≡ true
list_all-map-all p f each [] = refl
list_all-map-all p f each (x ∷ xs) = and_from (p (f x)) _ (each x) (list_all-map-all p f each xs)

pub are_piece_bytes-cleaned : (rule : CountingRule) (read : Read) → are_piece_bytes (cleaned rule read) ≡ true
unfolding cleaned is_usable is_base
are_piece_bytes-cleaned rule read =
    list_all-map-all _ (λ j. cleaned_base rule read j) (λ j.
    cond_both (is_usable rule read j) (to_ascii_uppercase (get_or read.bases j 0)) unusable (λ b. (is_base b || (eqb b unusable)) ≡ true)
    (λ h. or_left (is_base (to_ascii_uppercase (get_or read.bases j 0))) _
    (and_parts (is_base (to_ascii_uppercase (get_or read.bases j 0))) (passes_floor rule.floor read.quals j) h).0)
    (λ _. refl))
    (range_with_len 0 (length read.bases))

-- ---- the words of a cleaned read

-- a base is usable in the piece if it is usable in the read
usable-cleaned : (rule : CountingRule) (read : Read) (j : ℕ) → j < length read.bases
    → is_usable rule (read_of (cleaned rule read) None) j ≡ is_usable rule read j
unfolding is_usable is_base
usable-cleaned rule read j h =
    ap (λ b. is_base (to_ascii_uppercase b) && true) (get_or-cleaned rule read j h)
    ∙ ⊎_elim
    (λ e. let base = (and_parts (is_base (to_ascii_uppercase (get_or read.bases j 0))) (passes_floor rule.floor read.quals j) e).0 in
    ap (λ b. is_base (to_ascii_uppercase b) && true) (cond-true _ (to_ascii_uppercase (get_or read.bases j 0)) unusable e)
    ∙ ap (λ b. is_base b && true) (upper-base (to_ascii_uppercase (get_or read.bases j 0)) base) ∙ ap (λ b. b && true) base ∙ sym e)
    (λ e. ap (λ b. is_base (to_ascii_uppercase b) && true) (cond-false _ (to_ascii_uppercase (get_or read.bases j 0)) unusable e) ∙ sym e)
    (cases_Bool (is_usable rule read j))

all_usable-cleaned : (rule : CountingRule) (read : Read) (k p : ℕ) → p + k ≤ length read.bases
    → list_all (λ j. is_usable rule (read_of (cleaned rule read) None) j) (range_with_len p k)
    ≡ list_all (λ j. is_usable rule read j) (range_with_len p k)
all_usable-cleaned rule read zero p h = refl
all_usable-cleaned rule read (suc k) p h =
    ap (λ b. b && list_all (λ j. is_usable rule (read_of (cleaned rule read) None) j) (range_with_len (p + 1) k))
    (usable-cleaned rule read p (omega (arith, h)))
    ∙ ap (λ b. is_usable rule read p && b) (all_usable-cleaned rule read k (p + 1) (omega (arith, h)))

-- if all bases are usable, the piece has the letters of the read in upper case
letters-cleaned : (rule : CountingRule) (read : Read) (k p : ℕ) → p + k ≤ length read.bases
    → list_all (λ j. is_usable rule read j) (range_with_len p k) ≡ true
    → map to_ascii_uppercase (take k (drop p (cleaned rule read))) ≡ map to_ascii_uppercase (take k (drop p read.bases))
unfolding is_usable
letters-cleaned rule read zero p h all = refl
letters-cleaned rule read (suc k) p h all =
    let parts = and_parts (is_usable rule read p) (list_all (λ j. is_usable rule read j) (range_with_len (p + 1) k)) all in
    let base = (and_parts (is_base (to_ascii_uppercase (get_or read.bases p 0))) (passes_floor rule.floor read.quals p) parts.0).0 in
    let here : to_ascii_uppercase (get_or (cleaned rule read) p 0) ≡ to_ascii_uppercase (get_or read.bases p 0) =
    ap to_ascii_uppercase (get_or-cleaned rule read p (omega (arith, h)) ∙ cond-true _ (to_ascii_uppercase (get_or read.bases p 0)) unusable parts.0)
    ∙ upper-base (to_ascii_uppercase (get_or read.bases p 0)) base in
    let long = length-cleaned rule read in
    ap (λ xs. map to_ascii_uppercase (take (suc k) xs)) (drop_more (cleaned rule read) p 0 (omega (arith, h, long)))
    ∙ ap (λ b. b ∷ map to_ascii_uppercase (take k (drop (p + 1) (cleaned rule read)))) here
    ∙ ap (λ xs. to_ascii_uppercase (get_or read.bases p 0) ∷ xs) (letters-cleaned rule read k (p + 1) (omega (arith, h)) parts.1)
    ∙ sym (ap (λ xs. map to_ascii_uppercase (take (suc k) xs)) (drop_more read.bases p 0 (omega (arith, h))))

pub word_at-cleaned : (rule : CountingRule) (read : Read) (p : ℕ) → word_at rule (read_of (cleaned rule read) None) p ≡ word_at rule read p
unfolding word_at
word_at-cleaned rule read p =
    ⊎_elim
    (λ h. sym (cond-false _ (Some (map to_ascii_uppercase (take rule.k (drop p read.bases)))) None
    (and_left _ (list_all (λ j. is_usable rule read j) (range_with_len p rule.k)) (lt-leb (p + rule.k) (length read.bases) h))
    ∙ sym (cond-false _ (Some (map to_ascii_uppercase (take rule.k (drop p (cleaned rule read))))) None
    (and_left _ (list_all (λ j. is_usable rule (read_of (cleaned rule read) None) j) (range_with_len p rule.k))
    (lt-leb (p + rule.k) (length (cleaned rule read)) (let long = length-cleaned rule read in omega (arith, h, long)))))))
    (λ h. ap (λ n. cond (leb (p + rule.k) n && list_all (λ j. is_usable rule (read_of (cleaned rule read) None) j) (range_with_len p rule.k))
    (Some (map to_ascii_uppercase (take rule.k (drop p (cleaned rule read))))) None) (length-cleaned rule read)
    ∙ ap (λ b. cond (leb (p + rule.k) (length read.bases) && b) (Some (map to_ascii_uppercase (take rule.k (drop p (cleaned rule read))))) None)
    (all_usable-cleaned rule read rule.k p h)
    ∙ where_true (leb (p + rule.k) (length read.bases)) (list_all (λ j. is_usable rule read j) (range_with_len p rule.k)) _ _
    (λ e. letters-cleaned rule read rule.k p h e))
    (cases_lt (length read.bases) (p + rule.k))
  where
    where_true : (a b : Bool) (v w : List ℕ) → (b ≡ true → v ≡ w) → cond (a && b) (Some v) None ≡ cond (a && b) (Some w) None
    where_true true true v w same = ap Some (same refl)
    where_true true false v w same = refl
    where_true false b v w same = refl

form_at-cleaned : (rule : CountingRule) (read : Read) (p : ℕ) → form_at rule (read_of (cleaned rule read) None) p ≡ form_at rule read p
unfolding form_at
form_at-cleaned rule read p = ap (option_map (form rule.both)) (word_at-cleaned rule read p)

pub counted_at-cleaned : (rule : CountingRule) (read : Read) (p : ℕ) → counted_at rule (read_of (cleaned rule read) None) p ≡ counted_at rule read p
unfolding counted_at
counted_at-cleaned rule read p = ap (option_and_then (where_listed rule.only)) (form_at-cleaned rule read p)

-- ---- the words and the occurrences of a cleaned read

pub words_in-cleaned : (rule : CountingRule) (read : Read) → words_in rule (read_of (cleaned rule read) None) ≡ words_in rule read
unfolding words_in
words_in-cleaned rule read =
    ap (λ n. filter_map (λ p. option_map number (counted_at rule (read_of (cleaned rule read) None) p)) (range_with_len 0 (position_count rule.k n)))
    (length-cleaned rule read)
    ∙ (λ i. filter_map (λ p. option_map number (counted_at-cleaned rule read p i)) (positions rule read))

pub occurrences_in-cleaned : (rule : CountingRule) (read : Read) (word : List ℕ)
    → occurrences_in rule (read_of (cleaned rule read) None) word ≡ occurrences_in rule read word
unfolding occurrences_in
occurrences_in-cleaned rule read word =
    ap (λ n. count_by (λ p. counts_under rule (read_of (cleaned rule read) None) word p) (range_with_len 0 (position_count rule.k n)))
    (length-cleaned rule read)
    ∙ (λ i. count_by (λ p. option_map_or (λ found. bytes_eq found word) (counted_at-cleaned rule read p i) false) (positions rule read))

pub occurrences-cleaned : (rule : CountingRule) (reads : List Read) (word : List ℕ)
    → occurrences rule (as_reads (map (λ read. cleaned rule read) reads)) word ≡ occurrences rule reads word
unfolding occurrences
occurrences-cleaned rule [] word = refl
occurrences-cleaned rule (read ∷ reads) word =
    sum_by-cons (λ r. occurrences_in rule r word) (read_of (cleaned rule read) None) (as_reads (map (λ r. cleaned rule r) reads))
    ∙ ap (λ n. n + sum_by (λ r. occurrences_in rule r word) (as_reads (map (λ r. cleaned rule r) reads))) (occurrences_in-cleaned rule read word)
    ∙ ap (λ n. occurrences_in rule read word + n) (occurrences-cleaned rule reads word)
    ∙ sym (sum_by-cons (λ r. occurrences_in rule r word) read reads)

pub words_of-cleaned : (rule : CountingRule) (reads : List Read)
    → words_of rule (as_reads (map (λ read. cleaned rule read) reads)) ≡ words_of rule reads
unfolding words_of
words_of-cleaned rule [] = refl
words_of-cleaned rule (read ∷ reads) =
    ap (λ xs. xs ++ flat_map (λ r. words_in rule r) (as_reads (map (λ r. cleaned rule r) reads))) (words_in-cleaned rule read)
    ∙ ap (λ xs. words_in rule read ++ xs) (words_of-cleaned rule reads)

-- ---- a part of a piece
