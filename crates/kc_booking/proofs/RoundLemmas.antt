-- The cuts of several batches in one stripe: their keys, and the stripe when they are booked.
use Rattle.std.proofs.Common.{◌≡◌, ◌≢◌, ◌⊎◌, ℕ, ◌+◌, ◌/◌, ◌^◌, ◌<◌, ◌≤◌, Bool, true, false, not, ◌&&◌, cond, eqb, nat_eq, List, [], ◌∷◌, ◌++◌, length, get_or, take, drop, map, filter, count_by, All, Contains, append-nil, append_assoc, refl, ap, sym, subst, ◌∙◌, arith, ⊎_elim, below_more}
use Rattle.std.specs.declared.sync.Arc.{Arc}
use Rattle.std.specs.declared.alloc.Global.{Global}
use Rattle.std.specs.Bool.{MatchBool}
use Rattle.std.specs.List.{flat_map, list_any, IsDistinct, AllByRecursion}
use Rattle.std.proofs.lemmas.List.{length-map, get_or-map, map-append, map_push, length-drop, get_or-drop, get_or_default, take-append-drop, take_more, take_all}
use Rattle.std.proofs.lemmas.List.Concat.{flat_map-append}
use Rattle.std.proofs.lemmas.List.Sums.{length-filter, sum_by-append}
use Rattle.std.proofs.lemmas.List.Elements.{All-map, Contains-append_cases, Contains-append_right}
use Rattle.std.proofs.lemmas.Bool.Decides.{eqb_tells}
use Rattle.std.proofs.lemmas.List.Sorted.{IsPermutation-append_comm}
use Rattle.std.proofs.lemmas.Map.Keys.{IsDistinct-cons, IsDistinct-tail, IsDistinct-IsPermutation}
use Rattle.kc_lemmas.proofs.Distinct.{stands_or_not, head_apart, equal_flips}
use Rattle.kc_lemmas.proofs.Lists.{All-flat_map, Contains-cons, Contains-cons_cases, Contains-map}
use Rattle.kc_kmer.specs.Laws.{WordsAreBelow}
use Rattle.kc_kmer.specs.Occurrences.{words_of}
use Rattle.kc_word.specs.Cutting.{NumberedPieces, as_reads}
use Rattle.kc_word.specs.Shared.{values}
use Rattle.kc_word.specs.declared.batch.Batch.{Batch}
use Rattle.kc_table.specs.Counts.{KeyCounts, count_at}
use Rattle.kc_booking.specs.Setup.{StripeSetup, DividesWords, key_bits, word_count, stripe_of, key_of}
use Rattle.kc_booking.specs.Cut.{StripeCut, keys_of, cut_at, batch_hash_values}
use Rattle.kc_booking.specs.Cuts.{RoundCut, round_at, cuts_in, all_keys_of, sizes_of, OfFirst, FirstIsBooked, FirstIsNew}
use Rattle.kc_booking.specs.Stripe.{numbers_of, NumbersDiffer, KnowsNumbers, IsBooked, word_occurrences}
use Rattle.kc_booking.specs.Round.{stripe_keys}
use Rattle.kc_booking.proofs.Parts.{falls_in, keys_in-hashed}
use Rattle.kc_booking.proofs.Lawful.{CountsWords, WordLaws, occurrences-more, keys-fit, known-more, numbers_differ-more, booked-told}

-- ---- the keys of several batches

-- the keys of one more batch follow those of the others
pub all_keys-more : (setup : StripeSetup) (stripe : ℕ) (batches : List NumberedPieces) (batch : NumberedPieces)
    → all_keys_of (round_at setup (batches ++ batch ∷ []) stripe) ≡ all_keys_of (round_at setup batches stripe) ++ keys_of (cut_at setup batch stripe)
all_keys-more setup stripe batches batch =
    ap (flat_map keys_of) (map_push (λ (b : NumberedPieces). cut_at setup b stripe) batches batch)
    ∙ flat_map-append keys_of (cuts_in (round_at setup batches stripe)) (cut_at setup batch stripe ∷ [])
    ∙ ap (λ (keys : List ℕ). all_keys_of (round_at setup batches stripe) ++ keys) (append-nil (keys_of (cut_at setup batch stripe)))

-- and how many there are, after those that the others have
pub sizes-more : (setup : StripeSetup) (stripe : ℕ) (batches : List NumberedPieces) (batch : NumberedPieces)
    → sizes_of (round_at setup (batches ++ batch ∷ []) stripe) ≡ sizes_of (round_at setup batches stripe) ++ length (keys_of (cut_at setup batch stripe)) ∷ []
sizes-more setup stripe batches batch =
    ap (map (λ (cut : StripeCut). length (keys_of cut))) (map_push (λ (b : NumberedPieces). cut_at setup b stripe) batches batch)
    ∙ map_push (λ (cut : StripeCut). length (keys_of cut)) (cuts_in (round_at setup batches stripe)) (cut_at setup batch stripe)

-- the hash values of a batch's words that belong to a stripe have the keys of its cut, and there are as many
pub batch-keys : (setup : StripeSetup) (stripe : ℕ) (batch : NumberedPieces)
    → stripe_keys setup.stripe_bits stripe (batch_hash_values setup batch) ≡ keys_of (cut_at setup batch stripe)
batch-keys setup stripe batch = keys_in-hashed setup stripe (words_of setup.rule (as_reads batch.pieces))

pub batch-size : (setup : StripeSetup) (stripe : ℕ) (batch : NumberedPieces)
    → count_by (falls_in setup.stripe_bits stripe) (batch_hash_values setup batch) ≡ length (keys_of (cut_at setup batch stripe))
batch-size setup stripe batch =
    sym (length-map (filter (falls_in setup.stripe_bits stripe) (batch_hash_values setup batch)) (λ value. value / 2 ^ setup.stripe_bits)
    ∙ length-filter (falls_in setup.stripe_bits stripe) (batch_hash_values setup batch))
    ∙ ap length (batch-keys setup stripe batch)

-- ---- joined lists with different keys

module _ {K : Type 0} (equal : K → K → Bool) (tells : (x y : K) → ((equal x y ≡ true) × (x ≡ y)) ⊎ ((equal x y ≡ false) × (x ≢ y))) where
  pub IsDistinct-append_right : (xs ys : List K) → IsDistinct equal (xs ++ ys) → IsDistinct equal ys
  IsDistinct-append_right [] ys distinct = distinct
  IsDistinct-append_right (x ∷ xs) ys distinct = IsDistinct-append_right xs ys (IsDistinct-tail equal x (xs ++ ys) distinct)

  pub IsDistinct-append_apart : (xs ys : List K) (y : K) → IsDistinct equal (xs ++ ys) → Contains xs y → ¬ Contains ys y
  IsDistinct-append_apart [] ys y distinct (k, within, is) there = absurd (omega arith)
  IsDistinct-append_apart (x ∷ xs) ys y distinct here there = ⊎_elim
      (λ (first : x ≡ y). head_apart equal tells x (xs ++ ys) distinct (Contains-append_right xs ys x (subst (Contains ys) (sym first) there)))
      (λ (later : Contains xs y). IsDistinct-append_apart xs ys y (IsDistinct-tail equal x (xs ++ ys) distinct) later there)
      (Contains-cons_cases xs y x here)

  pub IsDistinct-append : (xs ys : List K) → IsDistinct equal xs → IsDistinct equal ys → ((y : K) → Contains xs y → ¬ Contains ys y)
      → IsDistinct equal (xs ++ ys)
  IsDistinct-append [] ys left right apart = right
  IsDistinct-append (x ∷ xs) ys left right apart =
      let rest = IsDistinct-append xs ys (IsDistinct-tail equal x xs left) right (λ y here. apart y (Contains-cons xs y x here)) in
      ⊎_elim
      (λ (again : Contains (xs ++ ys) x). absurd (⊎_elim
      (λ (here : Contains xs x). head_apart equal tells x xs left here)
      (λ (there : Contains ys x). apart x (0, omega arith, refl) there)
      (Contains-append_cases xs ys x again)))
      (λ (others : AllByRecursion (λ y. equal x y ≡ false) (xs ++ ys)). IsDistinct-cons equal x (xs ++ ys) others rest)
      (stands_or_not equal tells x (xs ++ ys))

-- ---- batches whose numbers differ

numbers_of-append : (journal batches : List NumberedPieces) → numbers_of (journal ++ batches) ≡ numbers_of journal ++ numbers_of batches
numbers_of-append journal batches = map-append (λ (b : NumberedPieces). b.number) journal batches

pub NumbersDiffer-right : (journal batches : List NumberedPieces) → NumbersDiffer (journal ++ batches) → NumbersDiffer batches
NumbersDiffer-right journal batches differ =
    IsDistinct-append_right nat_eq eqb_tells (numbers_of journal) (numbers_of batches) (subst (IsDistinct nat_eq) (numbers_of-append journal batches) differ)

pub NumbersDiffer-left : (journal batches : List NumberedPieces) → NumbersDiffer (journal ++ batches) → NumbersDiffer journal
NumbersDiffer-left journal batches differ =
    IsDistinct-append_right nat_eq eqb_tells (numbers_of batches) (numbers_of journal)
    (IsDistinct-IsPermutation nat_eq (equal_flips nat_eq eqb_tells) (numbers_of journal ++ numbers_of batches) (numbers_of batches ++ numbers_of journal)
    (IsPermutation-append_comm (numbers_of journal) (numbers_of batches)) (subst (IsDistinct nat_eq) (numbers_of-append journal batches) differ))

-- the batch of this index
pub record IsBatchAt (batches : List NumberedPieces) (i : ℕ) (batch : NumberedPieces) : Type 0 where
  pub within : i < length batches
  pub is : batch ≡ get_or batches i batch

-- a batch whose number is in the journal
pub booked_before : (journal batches : List NumberedPieces) (i : ℕ) (batch : NumberedPieces) → IsBatchAt batches i batch → IsBooked journal batch.number
    → ¬ NumbersDiffer (journal ++ batches)
booked_before journal batches i batch at booked differ =
    IsDistinct-append_apart nat_eq eqb_tells (numbers_of journal) (numbers_of batches) batch.number
    (subst (IsDistinct nat_eq) (numbers_of-append journal batches) differ) booked
    (Contains-map (λ (b : NumberedPieces). b.number) batches batch (i, at.within, sym at.is))

-- a batch with its number before it
pub stands_before : (batches : List NumberedPieces) (i : ℕ) (batch : NumberedPieces) → IsBatchAt batches i batch → IsBooked (take i batches) batch.number
    → ¬ NumbersDiffer batches
stands_before batches i batch at booked =
    let none : i + 0 ≡ i = omega arith in
    let first : IsBatchAt (drop i batches) 0 batch = record {
      within = omega (arith, length-drop i batches, at.within);
      is = at.is ∙ ap (λ k. get_or batches k batch) (sym none) ∙ sym (get_or-drop i batches 0 batch);
    } in
    subst (λ (bs : List NumberedPieces). ¬ NumbersDiffer bs) (take-append-drop i batches)
    (booked_before (take i batches) (drop i batches) 0 batch first booked)

-- whether the numbers differ with one more batch, given whether its number is new
pub differ-more : (batches : List NumberedPieces) (batch : NumberedPieces) (differ new : Bool)
    → MatchBool differ (NumbersDiffer batches) (¬ NumbersDiffer batches)
    → MatchBool new (¬ IsBooked batches batch.number) (IsBooked batches batch.number)
    → MatchBool (differ && new) (NumbersDiffer (batches ++ batch ∷ [])) (¬ NumbersDiffer (batches ++ batch ∷ []))
differ-more batches batch true true before apart = numbers_differ-more batches batch before apart
differ-more batches batch true false before booked = booked_before batches (batch ∷ []) 0 batch (record { within = omega arith; is = refl }) booked
differ-more batches batch false new before _ = λ (all : NumbersDiffer (batches ++ batch ∷ [])). before (NumbersDiffer-left batches (batch ∷ []) all)

-- the result of putting a batch's number into the set of numbers
pub is-new : (batches : List NumberedPieces) {n number : ℕ} (found added : Bool) → found ≡ list_any (nat_eq n) (numbers_of batches) → n ≡ number
    → added ≡ not found → MatchBool added (¬ IsBooked batches number) (IsBooked batches number)
is-new batches {n} {number} true true known is told = absurd (cc)
is-new batches {n} {number} true false known is told = booked-told batches true known is
is-new batches {n} {number} false true known is told = booked-told batches false known is
is-new batches {n} {number} false false known is told = absurd (cc)

-- one more batch is known
pub known-then : (front : List NumberedPieces) (batch : NumberedPieces) (number : ℕ) (old new : ℕ → Bool) → KnowsNumbers old front
    → number ≡ batch.number → ((n : ℕ) → new n ≡ cond (nat_eq number n) true (old n)) → KnowsNumbers new (front ++ batch ∷ [])
known-then front batch number old new known is updated =
    known-more front batch old new known (λ n. updated n ∙ ap (λ m. cond (nat_eq m n) true (old n)) is)

-- none of the first i batches is in the journal
abbrev pub NoneBooked : List NumberedPieces → List NumberedPieces → ℕ → Type 0
NoneBooked journal batches i = (k : ℕ) → k < i → (d : NumberedPieces) → k < length batches → ¬ IsBooked journal (get_or batches k d).number

pub NoneBooked-more : (journal batches : List NumberedPieces) (i : ℕ) (batch : NumberedPieces) → IsBatchAt batches i batch → ¬ IsBooked journal batch.number
    → NoneBooked journal batches i → NoneBooked journal batches (i + 1)
NoneBooked-more journal batches i batch at new none = below_more _ i none
    (λ d within booked. new (subst (λ (b : NumberedPieces). IsBooked journal b.number) (get_or_default batches i d batch within ∙ sym at.is) booked))

pub NumbersDiffer-both : (journal batches : List NumberedPieces) (i : ℕ) → length batches ≤ i → NumbersDiffer journal → NumbersDiffer batches
    → NoneBooked journal batches i → NumbersDiffer (journal ++ batches)
NumbersDiffer-both journal batches i end old new none =
    subst (IsDistinct nat_eq) (sym (numbers_of-append journal batches))
    (IsDistinct-append nat_eq eqb_tells (numbers_of journal) (numbers_of batches) old new apart)
  where
    blank : NumberedPieces
    blank = record { number = 0; pieces = [] }

    apart : (n : ℕ) → IsBooked journal n → ¬ Contains (numbers_of batches) n
    apart n booked (k, within, is) =
        let less : k < length batches = omega (arith, within, length-map batches (λ (b : NumberedPieces). b.number)) in
        let number : (get_or batches k blank).number ≡ n = sym (get_or-map (λ (b : NumberedPieces). b.number) batches k blank n less) ∙ is in
        none k (omega arith) blank less (subst (IsBooked journal) (sym number) booked)

-- ---- batches that are shared

abbrev pub Shared : Type 0
Shared = Arc Batch Global

pub length-values : (batches : List Shared) → length (values batches) ≡ length batches
length-values batches = length-map batches (λ (b : Shared). b.value)

-- the shared batch of this index
pub record IsSharedAt (batches : List Shared) (i : ℕ) (batch : Shared) : Type 0 where
  pub within : i < length batches
  pub is : batch ≡ get_or batches i batch

pub value_at : {batches : List Shared} {i : ℕ} {batch : Shared} → IsSharedAt batches i batch → IsBatchAt (values batches) i batch.value
value_at {batches} {i} {batch} at = record {
  within = omega (arith, at.within, length-values batches);
  is = ap (λ (b : Shared). b.value) at.is ∙ sym (get_or-map (λ (b : Shared). b.value) batches i batch batch.value at.within);
}

pub values-more : {batches : List Shared} {i : ℕ} {batch : Shared} → IsSharedAt batches i batch
    → take (i + 1) (values batches) ≡ take i (values batches) ++ batch.value ∷ []
values-more {batches} {i} {batch} at =
    let value = value_at at in
    take_more (values batches) i batch.value value.within ∙ ap (λ (b : NumberedPieces). take i (values batches) ++ b ∷ []) (sym value.is)

pub values-push : {old same new : List Shared} (batch : Shared) → same ≡ old → new ≡ same ++ batch ∷ [] → values new ≡ values old ++ batch.value ∷ []
values-push {old} {same} {new} batch is pushed =
    ap values (pushed ∙ ap (λ (xs : List Shared). xs ++ batch ∷ []) is) ∙ map_push (λ (b : Shared). b.value) old batch

pub values-all : (batches : List Shared) (i : ℕ) → length batches ≤ i → take i (values batches) ≡ values batches
values-all batches i end = take_all i (values batches) (omega (arith, end, length-values batches))

-- the last of them was looked for in the journal
pub values-differ : (journal : List NumberedPieces) (batches items : List Shared) (i : ℕ) → items ≡ batches → length items ≤ i → NumbersDiffer journal
    → NumbersDiffer (values batches) → NoneBooked journal (values items) i → NumbersDiffer (journal ++ values batches)
values-differ journal batches items i same end old new none =
    NumbersDiffer-both journal (values batches) i (omega (arith, ap length same, length-values batches, end)) old new
    (subst (λ (xs : List Shared). NoneBooked journal (values xs) i) same none)

pub no_values : (batches : List Shared) (more : List NumberedPieces) → values batches ≡ more → length batches ≡ 0 → more ≡ []
no_values [] more is none = sym is
no_values (batch ∷ batches) more is none = absurd (omega arith)

-- a property of the first of them
pub of_first : (P : NumberedPieces → Type 0) (batches : List Shared) (d : Shared) → 1 ≤ length (values batches)
    → P (get_or batches 0 d).value → OfFirst P (values batches)
of_first P [] d some holds = absurd (omega (arith, some))
of_first P (batch ∷ batches) d some holds = holds

pub new_first : (journal batches : List NumberedPieces) → FirstIsNew journal batches → ¬ FirstIsBooked journal batches
new_first journal [] new booked = booked
new_first journal (batch ∷ batches) new booked = new booked

pub first_booked : (journal batches : List NumberedPieces) → FirstIsBooked journal batches → ¬ NumbersDiffer (journal ++ batches)
first_booked journal [] booked = absurd booked
first_booked journal (batch ∷ batches) booked = booked_before journal (batch ∷ batches) 0 batch (record { within = omega arith; is = refl }) booked

-- if all numbers differ, none is refused
pub new_refused : (journal batches : List NumberedPieces) (Own : Type 0) → NumbersDiffer (journal ++ batches)
    → FirstIsBooked journal batches ⊎ (Own × ¬ NumbersDiffer (journal ++ batches)) → ⊥
new_refused journal batches Own differ refused =
    ⊎_elim (λ (first : FirstIsBooked journal batches). first_booked journal batches first differ)
    (λ (again : Own × ¬ NumbersDiffer (journal ++ batches)). again.1 differ) refused

-- if the first is new and the words are another stripe's, no batch was booked before
pub stranger_refused : (journal batches : List NumberedPieces) (Own : Type 0) → FirstIsNew journal batches → ¬ Own
    → FirstIsBooked journal batches ⊎ (Own × ¬ NumbersDiffer (journal ++ batches)) → ⊥
stranger_refused journal batches Own new other refused =
    ⊎_elim (λ (first : FirstIsBooked journal batches). new_first journal batches new first)
    (λ (again : Own × ¬ NumbersDiffer (journal ++ batches)). other again.0) refused

-- if there is no batch, none is refused
pub none_refused : (journal batches : List NumberedPieces) (Own : Type 0) → batches ≡ [] → NumbersDiffer journal
    → FirstIsBooked journal batches ⊎ (Own × ¬ NumbersDiffer (journal ++ batches)) → ⊥
none_refused journal [] Own none differ refused =
    ⊎_elim (λ (first : FirstIsBooked journal []). first)
    (λ (again : Own × ¬ NumbersDiffer (journal ++ [])). again.1 (subst NumbersDiffer (sym (append-nil journal)) differ)) refused
none_refused journal (batch ∷ batches) Own none differ refused = absurd (cc)

-- ---- one cut as a round of one batch

pub one_keys : (cut : StripeCut) → all_keys_of (round_at cut.setup (cut.batch ∷ []) cut.stripe) ≡ keys_of cut
one_keys cut = append-nil (keys_of cut)

pub one_differs : (batch : NumberedPieces) → NumbersDiffer (batch ∷ [])
unfolding IsDistinct
one_differs batch = (tt, tt)

-- a batch that is refused alone was booked before, since there is no other beside it
pub one_refused : (journal : List NumberedPieces) (batch : NumberedPieces) (Own : Type 0) → NumbersDiffer journal
    → FirstIsBooked journal (batch ∷ []) ⊎ (Own × ¬ NumbersDiffer (journal ++ batch ∷ [])) → IsBooked journal batch.number
one_refused journal batch Own differ refused = by (list_any (nat_eq batch.number) (numbers_of journal)) refl
  where
    by : (found : Bool) → found ≡ list_any (nat_eq batch.number) (numbers_of journal) → IsBooked journal batch.number
    by true known = booked-told journal true known refl
    by false known =
        absurd (new_refused journal (batch ∷ []) Own (numbers_differ-more journal batch differ (booked-told journal false known refl)) refused)

-- ---- the stripe

pub own_round_keys : (setup : StripeSetup) (number : ℕ) (round : RoundCut) → round.setup ≡ setup → round.stripe ≡ number
    → all_keys_of round ≡ all_keys_of (round_at setup round.batches number)
own_round_keys setup number round same_setup same_stripe = λ i. all_keys_of (record { setup = same_setup i; stripe = same_stripe i; batches = round.batches })

pub round-keys-fit : (setup : StripeSetup) (number bits : ℕ) (batches : List NumberedPieces) → WordsAreBelow → DividesWords setup → bits ≡ key_bits setup
    → All (λ key. key < 2 ^ bits) (all_keys_of (round_at setup batches number))
round-keys-fit setup number bits batches below divided is =
    All-flat_map (λ key. key < 2 ^ bits) keys_of (cuts_in (round_at setup batches number))
    (All-map (λ cut. All (λ key. key < 2 ^ bits) (keys_of cut)) (λ batch. cut_at setup batch number) batches
    (λ k d within. keys-fit setup number bits (get_or batches k d) below divided is))

-- the keys of the stripe's own round fit
pub own-keys-fit : (setup : StripeSetup) (number bits : ℕ) (round : RoundCut) (keys : List ℕ) → keys ≡ all_keys_of round
    → (round.setup ≡ setup) × (round.stripe ≡ number) → WordsAreBelow → DividesWords setup → bits ≡ key_bits setup → All (λ key. key < 2 ^ bits) keys
own-keys-fit setup number bits round keys is (same_setup, same_stripe) below divided bits_are =
    subst (All (λ key. key < 2 ^ bits)) (sym (is ∙ own_round_keys setup number round same_setup same_stripe))
    (round-keys-fit setup number bits round.batches below divided bits_are)

word_occurrences-all : (setup : StripeSetup) (number word : ℕ) (journal batches : List NumberedPieces) → WordLaws → DividesWords setup
    → word < word_count setup → stripe_of setup word ≡ number
    → word_occurrences setup (journal ++ batches) word
    ≡ word_occurrences setup journal word + count_by (λ key. eqb key (key_of setup word)) (all_keys_of (round_at setup batches number))
word_occurrences-all setup number word journal [] laws divided below in_stripe =
    omega (arith, ap (λ (bs : List NumberedPieces). word_occurrences setup bs word) (append-nil journal))
word_occurrences-all setup number word journal (batch ∷ batches) laws divided below in_stripe =
    let here = occurrences-more setup number word journal batch laws divided below in_stripe in
    let later = word_occurrences-all setup number word (journal ++ batch ∷ []) batches laws divided below in_stripe in
    let shifted = ap (λ (bs : List NumberedPieces). word_occurrences setup bs word) (append_assoc journal (batch ∷ []) batches) in
    let split = sum_by-append (λ key. cond (eqb key (key_of setup word)) 1 0) (keys_of (cut_at setup batch number)) (all_keys_of (round_at setup batches number)) in
    omega (arith, here, later, shifted, split)

-- what was known before of a stripe and a round of it
pub record IsRoundBookedInto (setup : StripeSetup) (number : ℕ) (journal batches : List NumberedPieces) (old new : KeyCounts) : Type 0 where
  pub divided : DividesWords setup
  pub before : CountsWords setup number journal old
  pub added : (q : ℕ) → count_at new q ≡ count_at old q + count_by (λ key. eqb key q) (all_keys_of (round_at setup batches number))

pub CountsWords-all : (setup : StripeSetup) (number : ℕ) (journal batches : List NumberedPieces) (old new : KeyCounts) → WordLaws
    → IsRoundBookedInto setup number journal batches old new → CountsWords setup number (journal ++ batches) new
CountsWords-all setup number journal batches old new laws booked word below in_stripe =
    let sum = booked.added (key_of setup word) in
    let was = booked.before word below in_stripe in
    let occurs = word_occurrences-all setup number word journal batches laws booked.divided below in_stripe in
    omega (arith, sum, was, occurs)
