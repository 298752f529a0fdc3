-- The slow count: a position looked at base by base, positions counted one by one, and rows made number by number.
use Rattle.std.proofs.Common.{◌≡◌, ℕ, ◌+◌, ◌-◌, ◌^◌, ◌<◌, ◌≤◌, ⊎_elim, Bool, true, false, not, ◌&&◌, cond, eqb, leb, List, [], ◌∷◌, ◌++◌, map, length, get_or, take, drop, Some, None, option_map, sum_by, count_by, refl, ap, sym, ◌∙◌, subst, arith, eq-eqb, ne_eqb, map-id}
use Rattle.std.proofs.lemmas.Bool.{cases_Bool, cond-true, cond-false, and_from, and_left, and_right, le-leb, lt-leb, false_from_ne_true, cases_eq}
use Rattle.std.proofs.lemmas.List.{length-take-le, length-drop}
use Rattle.std.proofs.lemmas.List.Sums.{sum_by_push, sum_by_more}
use Rattle.std.proofs.lemmas.Slice.Eq.{bytes_eq-Decides}
use Rattle.std.proofs.lemmas.List.Folds.{list_all-append, list_all_at}
use Rattle.std.proofs.lemmas.List.FromFn.{map-range_with_len_more, length-range_with_len, get_or-range_with_len}
use Rattle.std.specs.List.{list_all, range_with_len}
use Rattle.std.specs.Option.{option_map_or}
use Rattle.std.specs.Str.{bytes_eq}
use Rattle.std.specs.Char.{to_ascii_uppercase}
use Rattle.kc_fastx.specs.Reads.{Read}
use Rattle.kc_kmer.specs.Letter.{is_base, are_bases, code}
use Rattle.kc_kmer.specs.Word.{text, form, canonical}
use Rattle.kc_kmer.specs.Rule.{CountingRule}
use Rattle.kc_kmer.specs.Occurrences.{is_usable, passes_floor, word_at, form_at, counted_at, position_count, counts_under, occurrences_in, occurrences}
use Rattle.kc_kmer.proofs.WordLemmas.{code-lt, same_from_text}
use Rattle.kc_kmer.proofs.WordCounts.{bases-usable}

-- ---- one base

known-is : (byte c : ℕ) → c ≡ cond (is_base (to_ascii_uppercase byte)) (code (to_ascii_uppercase byte)) 4
    → not (eqb c 4) ≡ is_base (to_ascii_uppercase byte)
known-is byte c e =
    ⊎_elim
    (λ h. let value : c ≡ code (to_ascii_uppercase byte) = e ∙ cond-true _ _ _ h in
    let small = code-lt (to_ascii_uppercase byte) in
    ap not (ne_eqb c 4 (λ f. omega (arith, value, small, f))) ∙ sym h)
    (λ h. ap not (eq-eqb c 4 (e ∙ cond-false _ _ _ h)) ∙ sym h)
    (cases_Bool (is_base (to_ascii_uppercase byte)))

-- a base that is looked at: the bases of its read, its index, and the code that was found for it
pub record BaseLook (read : Read) : Type 0 where
  pub bases : List ℕ
  pub index : ℕ
  pub found : ℕ
  pub bases_are : bases ≡ read.bases
  pub found_is : found ≡ cond (is_base (to_ascii_uppercase (get_or bases index 0))) (code (to_ascii_uppercase (get_or bases index 0))) 4

-- whether the code is that of a base
known-base : (read : Read) (s : BaseLook read) → not (eqb s.found 4) ≡ is_base (to_ascii_uppercase (get_or read.bases s.index 0))
known-base read s = known-is (get_or s.bases s.index 0) s.found s.found_is ∙ ap (λ xs. is_base (to_ascii_uppercase (get_or xs s.index 0))) s.bases_are

-- a base of a read without qualities
pub usable-none : (rule : CountingRule) (read : Read) (s : BaseLook read) → None ≡ read.quals → not (eqb s.found 4) ≡ is_usable rule read s.index
unfolding is_usable
usable-none rule read s none =
    known-base read s ∙ sym (and-true (is_base (to_ascii_uppercase (get_or read.bases s.index 0))))
    ∙ ap (λ o. is_base (to_ascii_uppercase (get_or read.bases s.index 0)) && passes_floor rule.floor o s.index) none
  where
    and-true : (b : Bool) → (b && true) ≡ b
    and-true true = refl
    and-true false = refl

-- a base of a read with qualities
usable-some : (rule : CountingRule) (read : Read) (s : BaseLook read) (quals : List ℕ) → Some quals ≡ read.quals
    → (not (eqb s.found 4) && leb rule.floor (get_or quals s.index 0)) ≡ is_usable rule read s.index
unfolding is_usable
usable-some rule read s quals some =
    ap (λ b. b && leb rule.floor (get_or quals s.index 0)) (known-base read s)
    ∙ ap (λ o. is_base (to_ascii_uppercase (get_or read.bases s.index 0)) && passes_floor rule.floor o s.index) some

-- if its code is one of a base, the quality decides
pub usable-known : (rule : CountingRule) (read : Read) (s : BaseLook read) (quals : List ℕ) (floor : ℕ) → Some quals ≡ read.quals → floor ≡ rule.floor
    → (s.found ≡ 4 → ⊥) → leb floor (get_or quals s.index 0) ≡ is_usable rule read s.index
usable-known rule read s quals floor some level known =
    ap (λ n. leb n (get_or quals s.index 0)) level ∙ sym (ap (λ b. b && leb rule.floor (get_or quals s.index 0)) (ap not (ne_eqb s.found 4 known)))
    ∙ usable-some rule read s quals some

-- if it is not, the base is not usable
pub usable-unknown : (rule : CountingRule) (read : Read) (s : BaseLook read) (quals : List ℕ) → Some quals ≡ read.quals → s.found ≡ 4
    → not (eqb s.found 4) ≡ is_usable rule read s.index
usable-unknown rule read s quals some unknown =
    ap not (eq-eqb s.found 4 unknown) ∙ sym (ap (λ b. b && leb rule.floor (get_or quals s.index 0)) (ap not (eq-eqb s.found 4 unknown)))
    ∙ usable-some rule read s quals some

-- ---- one position

pub usable-more : (rule : CountingRule) (read : Read) (p index : ℕ) → p ≤ index
    → list_all (λ j. is_usable rule read j) (range_with_len p (index - p)) ≡ true → is_usable rule read index ≡ true
    → list_all (λ j. is_usable rule read j) (range_with_len p (index + 1 - p)) ≡ true
usable-more rule read p index h all this =
    ap (λ n. list_all (λ j. is_usable rule read j) (range_with_len p n)) more
    ∙ ap (list_all (λ j. is_usable rule read j))
    (sym (map-id (range_with_len p (index - p + 1)))
    ∙ map-range_with_len_more (λ j. j) p (index - p) index (omega (arith, h)) ∙ ap (λ xs. xs ++ index ∷ []) (map-id (range_with_len p (index - p))))
    ∙ list_all-append (λ j. is_usable rule read j) (range_with_len p (index - p)) (index ∷ []) ∙ and_from _ _ all (and_from _ _ this refl)
  where
    more : index + 1 - p ≡ index - p + 1
    more = omega (arith, h)

-- if a base is not usable, or the read ends before, there is no word
pub form_at-broken : (rule : CountingRule) (read : Read) (p index : ℕ) → p ≤ index → index < p + rule.k → is_usable rule read index ≡ false
    → form_at rule read p ≡ None
unfolding form_at word_at
form_at-broken rule read p index h l broken =
    let long = length-range_with_len p rule.k in
    let here : is_usable rule read (get_or (range_with_len p rule.k) (index - p) 0) ≡ false =
    ap (is_usable rule read) (get_or-range_with_len p rule.k (index - p) 0 (omega (arith, h, l)) ∙ omega (arith, h)) ∙ broken in
    ap (option_map (form rule.both)) (cond-false _ (Some (map to_ascii_uppercase (take rule.k (drop p read.bases)))) None
    (and_right (leb (p + rule.k) (length read.bases)) _
    (list_all_at (λ j. is_usable rule read j) (range_with_len p rule.k) (index - p) 0 (omega (arith, long, h, l)) here)))

pub form_at-past : (rule : CountingRule) (read : Read) (p : ℕ) → length read.bases < p + rule.k → form_at rule read p ≡ None
unfolding form_at word_at
form_at-past rule read p h =
    ap (option_map (form rule.both)) (cond-false _ (Some (map to_ascii_uppercase (take rule.k (drop p read.bases)))) None
    (and_left _ (list_all (λ j. is_usable rule read j) (range_with_len p rule.k)) (lt-leb (p + rule.k) (length read.bases) h)))

-- if all are usable, the k bases are a word, and it counts under its form
pub record HoldsWord (rule : CountingRule) (read : Read) (p : ℕ) (window : List ℕ) : Type 0 where
  pub long : length window ≡ rule.k
  pub bases : are_bases (map to_ascii_uppercase window) ≡ true
  pub counted : form_at rule read p ≡ Some (form rule.both (map to_ascii_uppercase window))

-- the bases from a position to an end, as many as a word has and all usable
pub record UsableWindow (rule : CountingRule) (read : Read) (p : ℕ) : Type 0 where
  pub bases : List ℕ
  pub end : ℕ
  pub bases_are : bases ≡ read.bases
  pub end_is : end ≡ p + rule.k
  pub within : end ≤ length read.bases
  pub usable : list_all (λ j. is_usable rule read j) (range_with_len p (end - p)) ≡ true

pub form_at-whole : (rule : CountingRule) (read : Read) (p : ℕ) (s : UsableWindow rule read p)
    → HoldsWord rule read p (take (s.end - p) (drop p s.bases))
unfolding form_at word_at
form_at-whole rule read p s =
    let count : s.end - p ≡ rule.k = omega (arith, s.end_is) in
    let cut : take (s.end - p) (drop p s.bases) ≡ take rule.k (drop p read.bases) =
    ap (λ n. take n (drop p s.bases)) count ∙ ap (λ xs. take rule.k (drop p xs)) s.bases_are in
    let usable : list_all (λ j. is_usable rule read j) (range_with_len p rule.k) ≡ true =
    ap (λ n. list_all (λ j. is_usable rule read j) (range_with_len p n)) (sym count) ∙ s.usable in
    let rest = length-drop p read.bases in
    let fits : p + rule.k ≤ length read.bases = omega (arith, s.end_is, s.within) in
    record {
      long = ap length cut ∙ length-take-le rule.k (drop p read.bases) (omega (arith, rest, fits));
      bases = ap (λ w. are_bases (map to_ascii_uppercase w)) cut ∙ bases-usable rule read rule.k p fits usable;
      counted =
          ap (option_map (form rule.both))
          (cond-true _ (Some (map to_ascii_uppercase (take rule.k (drop p read.bases)))) None
          (and_from _ _ (le-leb (p + rule.k) (length read.bases) fits) usable))
          ∙ ap (λ w. Some (form rule.both (map to_ascii_uppercase w))) (sym cut);
    }

pub counted-both : (rule : CountingRule) (b : Bool) (word letters : List ℕ) → b ≡ rule.both → b ≡ true → word ≡ canonical letters
    → word ≡ form rule.both letters
unfolding form
counted-both rule b word letters same h e = e ∙ sym (cond-true rule.both (canonical letters) letters (sym same ∙ h))

pub counted-one : (rule : CountingRule) (b : Bool) (word letters : List ℕ) → b ≡ rule.both → b ≡ false → word ≡ letters
    → word ≡ form rule.both letters
unfolding form
counted-one rule b word letters same h e = e ∙ sym (cond-false rule.both (canonical letters) letters (sym same ∙ h))

-- what `pack` returns for the window of a position with a word
pub word-packed : {window : List ℕ} (rule : CountingRule) (read : Read) (p k m : ℕ) → HoldsWord rule read p window → k ≡ rule.k
    → text k m ≡ map to_ascii_uppercase window → form_at rule read p ≡ Some (form rule.both (text rule.k m))
word-packed rule read p k m held same e = held.counted ∙ ap (λ w. Some (form rule.both w)) (sym e ∙ ap (λ j. text j m) same)

-- ---- all positions of a read

-- the word that is found is the one that is looked for if their numbers are one
pub stands-some : (rule : CountingRule) (read : Read) (p found n : ℕ) → n < 4 ^ rule.k → found < 4 ^ rule.k
    → counted_at rule read p ≡ Some (text rule.k found) → eqb found n ≡ counts_under rule read (text rule.k n) p
stands-some rule read p found n h below here =
    let decides = bytes_eq-Decides (text rule.k found) (text rule.k n) in
    ⊎_elim
    (λ e. eq-eqb found n e ∙ sym (decides.1 (ap (text rule.k) e)))
    (λ ne. ne_eqb found n ne
    ∙ sym (false_from_ne_true (bytes_eq (text rule.k found) (text rule.k n)) (λ t. ne (same_from_text rule.k found n below h (decides.0 t)))))
    (cases_eq found n)
    ∙ sym (ap (λ o. option_map_or (λ word. bytes_eq word (text rule.k n)) o false) here)

pub stands-none : (rule : CountingRule) (read : Read) (p : ℕ) (word : List ℕ) → counted_at rule read p ≡ None → false ≡ counts_under rule read word p
stands-none rule read p word none = sym (ap (λ o. option_map_or (λ found. bytes_eq found word) o false) none)

-- the count of a word over the positions before i
pub record IsCountedTo (rule : CountingRule) (read : Read) (word : List ℕ) (i count : ℕ) : Type 0 where
  pub value : count ≡ count_by (λ p. counts_under rule read word p) (range_with_len 0 i)
  pub most : count ≤ i

pub IsCountedTo-none : (rule : CountingRule) (read : Read) (word : List ℕ) → IsCountedTo rule read word 0 0
IsCountedTo-none rule read word = record { value = refl; most = omega arith }

count_by-range-more : (test : ℕ → Bool) (i : ℕ) → count_by test (range_with_len 0 (i + 1)) ≡ count_by test (range_with_len 0 i) + cond (test i) 1 0
count_by-range-more test i =
    ap (count_by test) (sym (map-id (range_with_len 0 (i + 1))) ∙ map-range_with_len_more (λ j. j) 0 i i (omega arith)
    ∙ ap (λ xs. xs ++ i ∷ []) (map-id (range_with_len 0 i)))
    ∙ sum_by_push (λ p. cond (test p) 1 0) (range_with_len 0 i) i

pub IsCountedTo-yes : (rule : CountingRule) (read : Read) (word : List ℕ) (i count : ℕ) → counts_under rule read word i ≡ true
    → IsCountedTo rule read word i count → IsCountedTo rule read word (i + 1) (count + 1)
IsCountedTo-yes rule read word i count test counted =
    let more = count_by-range-more (λ p. counts_under rule read word p) i
    ∙ ap (λ b. count_by (λ p. counts_under rule read word p) (range_with_len 0 i) + cond b 1 0) test in
    let before = counted.value in
    let least = counted.most in
    record { value = omega (arith, more, before); most = omega (arith, least) }

pub IsCountedTo-no : (rule : CountingRule) (read : Read) (word : List ℕ) (i count : ℕ) → counts_under rule read word i ≡ false
    → IsCountedTo rule read word i count → IsCountedTo rule read word (i + 1) count
IsCountedTo-no rule read word i count test counted =
    let more = count_by-range-more (λ p. counts_under rule read word p) i
    ∙ ap (λ b. count_by (λ p. counts_under rule read word p) (range_with_len 0 i) + cond b 1 0) test in
    let before = counted.value in
    let least = counted.most in
    record { value = omega (arith, more, before); most = omega (arith, least) }

pub IsCountedTo-all : (rule : CountingRule) (read : Read) (word : List ℕ) (i count : ℕ) → i ≡ position_count rule.k (length read.bases)
    → IsCountedTo rule read word i count → count ≡ occurrences_in rule read word
unfolding occurrences_in
IsCountedTo-all rule read word i count e counted = counted.value ∙ ap (λ n. count_by (λ p. counts_under rule read word p) (range_with_len 0 n)) e

-- ---- all reads

-- the occurrences of a word in the reads seen so far
pub record IsSummedTo (rule : CountingRule) (seen : List Read) (word : List ℕ) (count : ℕ) : Type 0 where
  pub value : count ≡ occurrences rule seen word
  pub most : count ≤ sum_by (λ read. length read.bases) seen

pub IsSummedTo-none : (rule : CountingRule) (word : List ℕ) → IsSummedTo rule [] word 0
unfolding occurrences
IsSummedTo-none rule word = record { value = refl; most = omega arith }

-- one more read, at an index, and how often the word occurs in it
pub record ReadStep (rule : CountingRule) (reads : List Read) (word : List ℕ) : Type 0 where
  pub index : ℕ
  pub read : Read
  pub count : ℕ
  pub within : index < length reads
  pub read_is : read ≡ get_or reads index read
  pub count_is : count ≡ occurrences_in rule read word
  pub most : count ≤ length read.bases

pub IsSummedTo-more : (rule : CountingRule) (reads : List Read) (word : List ℕ) (s : ReadStep rule reads word) (count : ℕ)
    → IsSummedTo rule (take s.index reads) word count → IsSummedTo rule (take (s.index + 1) reads) word (count + s.count)
unfolding occurrences
IsSummedTo-more rule reads word s count summed =
    let value = sum_by_more (λ r. occurrences_in rule r word) reads s.index s.read s.within in
    let bases = sum_by_more (λ (r : Read). length r.bases) reads s.index s.read s.within in
    let here : s.count ≡ occurrences_in rule (get_or reads s.index s.read) word = s.count_is ∙ ap (λ r. occurrences_in rule r word) s.read_is in
    let most : s.count ≤ length (get_or reads s.index s.read).bases = subst (λ (r : Read). s.count ≤ length r.bases) s.read_is s.most in
    let before = summed.value in
    let least = summed.most in
    record { value = omega (arith, value, before, here); most = omega (arith, bases, least, most) }
