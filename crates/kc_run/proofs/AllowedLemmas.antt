-- The batches that may be booked in a run are those that are counted.
use Rattle.std.proofs.Common.{◌≡◌, ◌≢◌, ℕ, suc, ◌^◌, ◌<◌, ◌≤◌, nat_eq, List, [], ◌∷◌, ◌++◌, All, Contains, length, get_or, take, drop, sum_by, sym, ap, ◌∙◌, subst, ⊎_elim, arith}
use Rattle.std.proofs.Math.Seq.{split_at}
use Rattle.std.proofs.lemmas.Bool.Decides.{eqb_tells}
use Rattle.std.proofs.lemmas.List.{get_or_default, get_or-map, length-map}
use Rattle.std.proofs.lemmas.List.Elements.{All-push, Contains-append_cases, Contains-append_left, Contains-append_right}
use Rattle.std.proofs.lemmas.List.Sums.{sum_by-append, sum_by-cons}
use Rattle.std.proofs.lemmas.Map.Keys.{IsDistinct-tail}
use Rattle.std.specs.declared.alloc.Global.{Global}
use Rattle.std.specs.declared.sync.Arc.{Arc}
use Rattle.kc_lemmas.proofs.Distinct.{head_apart}
use Rattle.kc_lemmas.proofs.Lists.{Contains-cons_cases, Contains-map}
use Rattle.kc_word.specs.Cutting.{NumberedPieces, position_total}
use Rattle.kc_word.specs.Shared.{values}
use Rattle.kc_word.specs.declared.batch.Batch.{Batch}
use Rattle.kc_booking.specs.Stripe.{NumbersDiffer, numbers_of, position_sum}
use Rattle.kc_stripe.specs.Terms.{MayBeTooMany}

-- without one of the batches those with other numbers are still there
still_there : (front behind : List NumberedPieces) (batch other : NumberedPieces) → batch.number ≢ other.number
    → Contains (front ++ batch ∷ behind) other → Contains (front ++ behind) other
still_there front behind batch other apart there = ⊎_elim
    (λ (before : Contains front other). Contains-append_left front behind other before)
    (λ (later : Contains (batch ∷ behind) other). ⊎_elim
    (λ (same : batch ≡ other). absurd (apart (ap (λ (b : NumberedPieces). b.number) same)))
    (λ (past : Contains behind other). Contains-append_right front behind other past)
    (Contains-cons_cases behind other batch later))
    (Contains-append_cases front (batch ∷ behind) other there)

-- some of the batches, whose numbers differ, weigh no more than all of them
weigh_at_most : (weight : NumberedPieces → ℕ) (batches some : List NumberedPieces) → NumbersDiffer some → All (Contains batches) some
    → sum_by weight some ≤ sum_by weight batches
weigh_at_most weight batches [] differ there = omega arith
weigh_at_most weight batches (batch ∷ some) differ there =
    let (k, within, is) = there 0 batch (omega arith) in
    let front = take k batches in
    let behind = drop (suc k) batches in
    let split : batches ≡ front ++ batch ∷ behind = split_at batches k batch within ∙ ap (λ (b : NumberedPieces). front ++ b ∷ behind) is in
    let others : All (Contains (front ++ behind)) some = λ i d inside.
    still_there front behind batch (get_or some i d)
    (λ same. head_apart nat_eq eqb_tells batch.number (numbers_of some) differ
    (subst (Contains (numbers_of some)) (sym same) (Contains-map (λ (b : NumberedPieces). b.number) some (get_or some i d) (i, inside, get_or_default some i (get_or some i d) d inside))))
    (subst (λ (bs : List NumberedPieces). Contains bs (get_or some i d)) split (there (suc i) d (omega (arith, inside)))) in
    let rest = weigh_at_most weight (front ++ behind) some (IsDistinct-tail nat_eq batch.number (numbers_of some) differ) others in
    omega (
      arith,
      rest,
      ap (sum_by weight) split,
      sum_by-append weight front (batch ∷ behind),
      sum_by-append weight front behind,
      sum_by-cons weight batch behind,
      sum_by-cons weight batch some,
    )

-- so they are not too many if all have together at most 2 ^ 62 positions
pub not_too_many : (k : ℕ) (batches : List NumberedPieces) → position_sum k batches ≤ 2 ^ 62 → ¬ MayBeTooMany k (Contains batches)
not_too_many k batches small too_many =
    let positions = λ (batch : NumberedPieces). position_total k batch.pieces in
    absurd (omega (arith, small, too_many.many, weigh_at_most positions batches too_many.batches too_many.differ too_many.booked))

-- one of the batches more
pub allowed_more : (may_be_booked : NumberedPieces → Type 0) (batches : List (Arc Batch Global)) (drawn : ℕ) (batch : Arc Batch Global) (some now : List NumberedPieces)
    → All may_be_booked (values batches) → drawn < length batches → All may_be_booked some → now ≡ some ++ (get_or batches drawn batch).value ∷ []
    → All may_be_booked now
allowed_more may_be_booked batches drawn batch some now all within before same =
    let value = λ (b : Arc Batch Global). b.value in
    let there : get_or (values batches) drawn batch.value ≡ (get_or batches drawn batch).value = get_or-map value batches drawn batch batch.value within in
    let here = subst may_be_booked there (all drawn batch.value (omega (arith, within, length-map batches value))) in
    subst (All may_be_booked) (sym same) (All-push may_be_booked some (get_or batches drawn batch).value before here)
