-- Journals beside the batches that were given.
use Rattle.std.proofs.Common.{◌≡◌, ◌≢◌, ℕ, zero, suc, ◌+◌, ◌<◌, ◌≤◌, ⊎_elim, Bool, true, false, cond, eqb, ltb, nat_eq, List, [], ◌∷◌, length, get_or, take, Some, slice_get, sum_by, count_by, All, Contains, refl, ap, sym, ◌∙◌, subst, arith}
use Rattle.std.specs.Prelude.{◌↔◌, IsTrue, MatchBool}
use Rattle.std.specs.List.{IsDistinct, range_with_len}
use Rattle.std.specs.declared.sync.Arc.{Arc}
use Rattle.std.specs.declared.alloc.Global.{Global}
use Rattle.kc_word.specs.declared.batch.Batch.{Batch}
use Rattle.kc_word.specs.Shared.{values}
use Rattle.std.proofs.lemmas.Bool.{cases_lt, ne_eqb, lt-ltb, le-ltb}
use Rattle.std.proofs.lemmas.Bool.Decides.{eqb_tells}
use Rattle.std.proofs.lemmas.Option.{get_or_from_slice_get, slice_get-get_or, slice_get_within}
use Rattle.std.proofs.lemmas.List.{length-map, get_or-map, get_or_default, take_all}
use Rattle.std.proofs.lemmas.List.Elements.{All-map}
use Rattle.std.proofs.lemmas.List.Sums.{sum_by-cons, sum_by_more}
use Rattle.kc_lemmas.proofs.Distinct.{head_apart, times, times-distinct, times-some, Contains-from_times}
use Rattle.kc_lemmas.proofs.Numbers.{none_left_out}
use Rattle.kc_lemmas.proofs.Lists.{Contains-cons_cases, All-range}
use Rattle.kc_lemmas.proofs.Sums.{sum_by-same, sum_by-map, sum_by-zeros, sum_by-swap, sum_by-one_place, sum_by-range_more, count_by-none}
use Rattle.kc_lemmas.proofs.Permutations.{WeighTheSame}
use Rattle.std.proofs.lemmas.Map.Keys.{IsDistinct-tail}
use Rattle.kc_word.specs.Cutting.{NumberedPieces, is_same_batch}
use Rattle.kc_word.proofs.Sameness.{is_same_batch-Decides}
use Rattle.kc_booking.specs.Stripe.{numbers_of, NumbersDiffer, IsBooked}
use Rattle.kc_gather.specs.Gathering.{IsGiven, IsLeastMissing, HasAllBelow, HasAllNumbers}

-- ---- given batches

-- the given batch with its number determines this
pub is_given-at : (batches : List NumberedPieces) (batch there : NumberedPieces) (same : Bool) → slice_get batches batch.number ≡ Some there
    → same ≡ is_same_batch there batch → IsTrue same ↔ IsGiven batches batch
is_given-at batches batch there same at is = (
  λ true_. at ∙ ap Some ((is_same_batch-Decides there batch).0 (sym is ∙ true_)),
  λ given. is ∙ (is_same_batch-Decides there batch).1 (let e : Some there ≡ Some batch = sym at ∙ given in cc),
)

pub is_given-past : (batches : List NumberedPieces) (batch : NumberedPieces) (same : Bool) → length batches ≤ batch.number → same ≡ false → IsTrue same ↔ IsGiven batches batch
is_given-past batches batch same past is = (
  λ true_. absurd (let never : true ≡ false = sym true_ ∙ is in cc),
  λ given. let within = slice_get_within batches batch.number batch given in absurd (omega (arith, within, past)),
)

-- the same for shared batches
pub values-item : (batches : List (Arc Batch Global)) (shared : Arc Batch Global) (index : ℕ) (there : NumberedPieces) → index < length batches
    → shared ≡ get_or batches index shared → there ≡ shared.value → (index < length (values batches)) × (there ≡ get_or (values batches) index there)
values-item batches shared index there within is value =
    let long = length-map batches (λ (b : Arc Batch Global). b.value) in
    (omega (arith, long, within), sym (get_or-map (λ (b : Arc Batch Global). b.value) batches index shared there within ∙ ap (λ (b : Arc Batch Global). b.value) (sym is) ∙ sym value))

pub given_at : (batches : List NumberedPieces) (number index : ℕ) (there : NumberedPieces) → index ≡ number → (index < length batches) × (there ≡ get_or batches index there)
    → slice_get batches number ≡ Some there
given_at batches number index there same (within, is) =
    slice_get-get_or batches number there (omega (arith, within, same)) ∙ ap Some (ap (λ n. get_or batches n there) (sym same) ∙ sym is)

pub given_past : (batches : List (Arc Batch Global)) (batch : NumberedPieces) (number : ℕ) → number ≡ batch.number → length batches ≤ number
    → IsTrue (ltb number (length batches)) ↔ IsGiven (values batches) batch
given_past batches batch number same past =
    let long = length-map batches (λ (b : Arc Batch Global). b.value) in
    is_given-past (values batches) batch (ltb number (length batches)) (omega (arith, long, past, same)) (le-ltb number (length batches) past)

-- a batch that isn't given under its number
pub not_all_given : (batches journal : List NumberedPieces) (i : ℕ) (batch : NumberedPieces) → i < length journal → batch ≡ get_or journal i batch
    → ¬ IsGiven batches batch → ¬ All (IsGiven batches) journal
not_all_given batches journal i batch within is strange all = strange (subst (IsGiven batches) (sym is) (all i batch within))

-- ---- a whole journal has the batches, each once

module _ (batches journal : List NumberedPieces) (f : NumberedPieces → ℕ) where
  -- the batches with this number in a journal weigh what the given one does, times the occurrences of the number
  with_number : (i : ℕ) (given : NumberedPieces) → slice_get batches i ≡ Some given → All (IsGiven batches) journal
      → sum_by (λ batch. cond (eqb batch.number i) (f batch) 0) journal ≡ sum_by (λ n. cond (eqb n i) (f given) 0) (numbers_of journal)
  with_number i given at all =
      sum_by-same (λ batch. cond (eqb batch.number i) (f batch) 0) (λ batch. cond (eqb batch.number i) (f given) 0) journal (λ k d within.
      let batch : NumberedPieces = get_or journal k d in
      ⊎_elim
      (λ (same : (eqb batch.number i ≡ true) × (batch.number ≡ i)).
      let here : slice_get batches i ≡ Some batch = subst (λ n. slice_get batches n ≡ Some batch) same.1 (all k d within) in
      let is : batch ≡ given = sym (get_or_from_slice_get batches i batch given here) ∙ get_or_from_slice_get batches i given given at in
      ap (λ b. cond (eqb batch.number i) (f b) 0) is)
      (λ (apart : (eqb batch.number i ≡ false) × (batch.number ≢ i)). ap (λ b. cond b (f batch) 0) apart.0 ∙ sym (ap (λ b. cond b (f given) 0) apart.0))
      (eqb_tells batch.number i))
      ∙ sym (sum_by-map (λ n. cond (eqb n i) (f given) 0) (λ (batch : NumberedPieces). batch.number) journal)

-- of different numbers, one is this number, if it is among them
one_stands : (i weight : ℕ) (xs : List ℕ) → IsDistinct nat_eq xs → Contains xs i → sum_by (λ n. cond (eqb n i) weight 0) xs ≡ weight
one_stands i weight [] distinct (k, within, is) = absurd (omega (arith, within))
one_stands i weight (x ∷ xs) distinct stands =
    sum_by-cons (λ n. cond (eqb n i) weight 0) x xs ∙ ⊎_elim
    (λ (here : (eqb x i ≡ true) × (x ≡ i)).
    let none : sum_by (λ n. cond (eqb n i) weight 0) xs ≡ 0 = sum_by-zeros (λ n. cond (eqb n i) weight 0) xs (λ k d within.
    ap (λ b. cond b weight 0) (ne_eqb (get_or xs k d) i (λ same.
    head_apart nat_eq eqb_tells x xs distinct (k, within, get_or_default xs k x d within ∙ same ∙ sym here.1)))) in
    omega (arith, none, ap (λ b. cond b weight 0) here.0))
    (λ (apart : (eqb x i ≡ false) × (x ≢ i)).
    let later : Contains xs i = ⊎_elim (λ (first : x ≡ i). absurd (apart.1 first)) (λ (h : Contains xs i). h) (Contains-cons_cases xs i x stands) in
    let rest = one_stands i weight xs (IsDistinct-tail nat_eq x xs distinct) later in
    omega (arith, rest, ap (λ b. cond b weight 0) apart.0))
    (eqb_tells x i)

-- a sum over a list is one over its places
sum_by-places : {X : Type 0} (f : X → ℕ) (xs : List X) (d : X) (n : ℕ) → n ≤ length xs → sum_by (λ i. f (get_or xs i d)) (range_with_len 0 n) ≡ sum_by f (take n xs)
sum_by-places f xs d zero within = refl
sum_by-places f xs d (suc n) within =
    let one_more : suc n ≡ n + 1 = omega arith in
    ap (λ m. sum_by (λ i. f (get_or xs i d)) (range_with_len 0 m)) one_more
    ∙ sum_by-range_more (λ i. f (get_or xs i d)) n
    ∙ ap (λ m. m + f (get_or xs n d)) (sum_by-places f xs d n (omega (arith, within)))
    ∙ sym (sum_by_more f xs n d (omega (arith, within)))
    ∙ ap (λ m. sum_by f (take m xs)) (sym one_more)

-- a journal that has a batch of each given number, and given batches alone, each once, weighs what the given batches do
pub weighs_whole : (batches journal : List NumberedPieces) → IsDistinct nat_eq (numbers_of journal) → All (IsGiven batches) journal
    → HasAllNumbers batches journal → WeighTheSame journal batches
weighs_whole batches journal distinct given all f =
    let count : ℕ = length batches in
    let none : NumberedPieces = record { number = 0; pieces = [] } in
    sym (sum_by-same (λ batch. sum_by (λ i. cond (eqb batch.number i) (f batch) 0) (range_with_len 0 count)) f journal (λ k d within.
    sum_by-one_place (f (get_or journal k d)) (get_or journal k d).number count (slice_get_within batches (get_or journal k d).number (get_or journal k d) (given k d within))))
    ∙ sum_by-swap (λ (batch : NumberedPieces) i. cond (eqb batch.number i) (f batch) 0) journal (range_with_len 0 count)
    ∙ sum_by-same (λ i. sum_by (λ batch. cond (eqb batch.number i) (f batch) 0) journal) (λ i. f (get_or batches i none)) (range_with_len 0 count)
    (All-range (λ i. sum_by (λ batch. cond (eqb batch.number i) (f batch) 0) journal ≡ f (get_or batches i none)) 0 count (λ i low high.
    with_number batches journal f i (get_or batches i none) (slice_get-get_or batches i none (omega (arith, high))) given
    ∙ one_stands i (f (get_or batches i none)) (numbers_of journal) distinct (all i (omega (arith, high)))))
    ∙ sum_by-places f batches none count (omega arith)
    ∙ ap (sum_by f) (take_all count batches (omega arith))

-- ---- the first number that a journal lacks

-- as many numbers are below m + 1 as below m, and as m is there
below_more : (m : ℕ) (xs : List ℕ) → count_by (λ n. ltb n (m + 1)) xs ≡ count_by (λ n. ltb n m) xs + times eqb eqb_tells m xs
below_more m [] = refl
below_more m (x ∷ xs) =
    let next = sum_by-cons (λ n. cond (ltb n (m + 1)) 1 0) x xs in
    let before = sum_by-cons (λ n. cond (ltb n m) 1 0) x xs in
    let here = sum_by-cons (λ n. cond (eqb n m) 1 0) x xs in
    let rest = below_more m xs in
    ⊎_elim
    (λ (less : x < m).
    let one : cond (ltb x (m + 1)) 1 0 ≡ 1 = ap {B = ℕ} (λ b. cond b 1 0) (lt-ltb x (m + 1) (omega (arith, less))) in
    let two : cond (ltb x m) 1 0 ≡ 1 = ap {B = ℕ} (λ b. cond b 1 0) (lt-ltb x m less) in
    let none : cond (eqb x m) 1 0 ≡ 0 = ap {B = ℕ} (λ b. cond b 1 0) (ne_eqb x m (λ same. absurd (omega (arith, less, same)))) in
    omega (arith, next, before, here, rest, one, two, none))
    (λ (not_less : m ≤ x). ⊎_elim
    (λ (same : (eqb x m ≡ true) × (x ≡ m)).
    let same_number = same.1 in
    let one : cond (ltb x (m + 1)) 1 0 ≡ 1 = ap {B = ℕ} (λ b. cond b 1 0) (lt-ltb x (m + 1) (omega (arith, same_number))) in
    let none : cond (ltb x m) 1 0 ≡ 0 = ap {B = ℕ} (λ b. cond b 1 0) (le-ltb x m not_less) in
    let two : cond (eqb x m) 1 0 ≡ 1 = ap {B = ℕ} (λ b. cond b 1 0) same.0 in
    omega (arith, next, before, here, rest, one, two, none))
    (λ (other : (eqb x m ≡ false) × (x ≢ m)).
    let more : m + 1 ≤ x = past x m not_less other.1 in
    let one : cond (ltb x (m + 1)) 1 0 ≡ 0 = ap {B = ℕ} (λ b. cond b 1 0) (le-ltb x (m + 1) more) in
    let none : cond (ltb x m) 1 0 ≡ 0 = ap {B = ℕ} (λ b. cond b 1 0) (le-ltb x m not_less) in
    let two : cond (eqb x m) 1 0 ≡ 0 = ap {B = ℕ} (λ b. cond b 1 0) other.0 in
    omega (arith, next, before, here, rest, one, two, none))
    (eqb_tells x m))
    (cases_lt x m)
  where
    past : (x m : ℕ) → m ≤ x → x ≢ m → m + 1 ≤ x
    past x m not_less other = ⊎_elim (λ (less : m < x). omega (arith, less)) (λ (most : x ≤ m). absurd (other (omega (arith, not_less, most)))) (cases_lt m x)

-- of numbers that differ at most m are below m: as many if none of these is lacking, and fewer if one is
module _ (numbers : List ℕ) (differ : IsDistinct nat_eq numbers) where
  below-most : (m : ℕ) → count_by (λ n. ltb n m) numbers ≤ m
  below-most zero = let none = count_by-none (λ n. ltb n 0) numbers (λ k d within. le-ltb (get_or numbers k d) 0 (omega arith)) in omega (arith, none)
  below-most (suc m) =
      let once = times-distinct eqb eqb_tells m numbers differ in
      let next : m + 1 ≡ suc m = omega arith in
      subst (λ n. count_by (λ x. ltb x n) numbers ≤ n) next (omega (arith, below_more m numbers, below-most m, once))

  pub all-below : (m : ℕ) → ((n : ℕ) → n < m → Contains numbers n) → count_by (λ n. ltb n m) numbers ≡ m
  all-below zero all = let few = below-most 0 in omega (arith, few)
  all-below (suc m) all =
      let once = times-distinct eqb eqb_tells m numbers differ in
      let there = times-some eqb eqb_tells m numbers (all m (omega arith)) in
      let next : m + 1 ≡ suc m = omega arith in
      let before = all-below m (λ n less. all n (omega (arith, less))) in
      subst (λ n. count_by (λ x. ltb x n) numbers ≡ n) next (omega (arith, below_more m numbers, before, once, there))

  pub below-all : (m : ℕ) → count_by (λ n. ltb n m) numbers ≡ m → (n : ℕ) → n < m → Contains numbers n
  below-all zero many n less = absurd (omega (arith, less))
  below-all (suc m) many n less =
      let once = times-distinct eqb eqb_tells m numbers differ in
      let next : m + 1 ≡ suc m = omega arith in
      let counted : count_by (λ x. ltb x (m + 1)) numbers ≡ suc m = ap (λ b. count_by (λ x. ltb x b) numbers) next ∙ many in
      let few = below-most m in
      let more = below_more m numbers in
      ⊎_elim
      (λ (earlier : n < m). below-all m (omega (arith, counted, more, once, few)) n earlier)
      (λ (last : m ≤ n).
      let here : m ≡ n = omega (arith, last, less) in
      subst (Contains numbers) here (Contains-from_times eqb eqb_tells m numbers (omega (arith, counted, more, once, few))))
      (cases_lt n m)

-- what is known by counting
pub has_all_told : (journal : List NumberedPieces) (count number : ℕ) → NumbersDiffer journal → count ≡ count_by (λ batch. ltb batch.number number) journal
    → MatchBool (nat_eq count number) (HasAllBelow journal number) (¬ HasAllBelow journal number)
has_all_told journal count number differ is =
    let counted : count ≡ count_by (λ n. ltb n number) (numbers_of journal) = is ∙ sym (sum_by-map (λ n. cond (ltb n number) 1 0) (λ (batch : NumberedPieces). batch.number) journal) in
    ⊎_elim
    (λ (same : (eqb count number ≡ true) × (count ≡ number)).
    subst (λ b. MatchBool b (HasAllBelow journal number) (¬ HasAllBelow journal number)) (sym same.0) (below-all (numbers_of journal) differ number (sym counted ∙ same.1)))
    (λ (other : (eqb count number ≡ false) × (count ≢ number)).
    subst (λ b. MatchBool b (HasAllBelow journal number) (¬ HasAllBelow journal number)) (sym other.0) (λ all. other.1 (counted ∙ all-below (numbers_of journal) differ number all)))
    (eqb_tells count number)

-- a journal of given batches that has as many entries as there are batches lacks none
pub none_missing : (batches journal : List NumberedPieces) → NumbersDiffer journal → All (IsGiven batches) journal → length journal ≡ length batches
    → HasAllNumbers batches journal
none_missing batches journal distinct given many =
    let below : All (λ number. number < length batches) (numbers_of journal) =
    All-map (λ number. number < length batches) (λ (batch : NumberedPieces). batch.number) journal (λ k d within.
    slice_get_within batches (get_or journal k d).number (get_or journal k d) (given k d within)) in
    none_left_out (length batches) (numbers_of journal) distinct below (length-map journal (λ (batch : NumberedPieces). batch.number) ∙ many)

-- what halving came to: all numbers below one are there, and not all below the next
pub least_missing : (batches journal : List NumberedPieces) (from to : ℕ) → NumbersDiffer journal → All (IsGiven batches) journal → to ≤ length batches
    → HasAllBelow journal from → ¬ HasAllBelow journal to → from < to → to ≤ from + 1 → IsLeastMissing batches journal from
least_missing batches journal from to distinct given within all not_all less next = record {
  given = omega (arith, within, less);
  missing = lacking;
  least = all;
  counted = λ many. lacking (none_missing batches journal distinct given many from (omega (arith, within, less)));
}
  where
    lacking : ¬ IsBooked journal from
    lacking there = not_all (λ n below. ⊎_elim
        (λ (earlier : n < from). all n earlier)
        (λ (last : from ≤ n). let here : from ≡ n = omega (arith, last, below, next) in subst (IsBooked journal) here there)
        (cases_lt n from))
