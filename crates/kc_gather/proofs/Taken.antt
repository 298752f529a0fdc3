-- What is taken from stripes.
use Rattle.std.proofs.Common.{◌≡◌, ℕ, zero, suc, ◌-◌, ◌^◌, ◌<◌, ◌≤◌, List, [], ◌∷◌, ◌++◌, length, get_or, map, Vec, Global, refl, ap, sym, subst, ◌∙◌, ⊎_elim, arith}
use Rattle.std.proofs.lemmas.Bool.{cases_lt}
use Rattle.std.proofs.lemmas.List.{length-append, length-map, get_or-map, get_or-append_right}
use Rattle.std.proofs.Math.ListN.{get_or-append}
use Rattle.std.proofs.lemmas.Option.{get_or_from_slice_get}
use Rattle.kc_word.specs.Cutting.{NumberedPieces}
use Rattle.kc_booking.specs.Setup.{StripeSetup, stripe_count}
use Rattle.kc_booking.specs.Stripe.{StripeState, position_sum}
use Rattle.kc_tally.specs.Packing.{LooseSeen}
use Rattle.kc_gather.specs.declared.stripe_part.StripePart.{StripePart}
use Rattle.kc_gather.specs.Gathering.{IsWhole, AreWholeBefore, HavePartsOf, AreAllParts, HasRowsOf}

-- what is a part of one kind
module _ {C P : Type 0} (IsPart : StripeSetup → List NumberedPieces → ℕ → P → Type 0) where
  -- whichever stripe of which count this is, this is its part
  abbrev pub IsPartOf : StripeState C → P → Type 0
  IsPartOf stripe part = (setup : StripeSetup) (batches : List NumberedPieces) (n : ℕ) → IsWhole setup batches n stripe → IsPart setup batches n part

  pub parts-none : HavePartsOf {C = C} {P = P} IsPart [] []
  parts-none = record { all = refl; each = λ i stripe part none. absurd (omega (arith, none)) }

  pub parts-append : (stripes more : List (StripeState C)) (parts others : List P) → HavePartsOf IsPart stripes parts → HavePartsOf IsPart more others
      → HavePartsOf IsPart (stripes ++ more) (parts ++ others)
  parts-append stripes more parts others first second = record {
    all = let long = first.all in let rest = second.all in omega (arith, long, rest, length-append stripes more, length-append parts others);
    each = λ i s p within.
        let long = first.all in
        let rest = length-append stripes more in
        ⊎_elim
        (λ (early : i < length stripes).
        subst (λ part. IsPartOf (get_or (stripes ++ more) i s) part) (sym (get_or-append parts others p i (omega (arith, early, long))))
        (subst (λ stripe. IsPartOf stripe (get_or parts i p)) (sym (get_or-append stripes more s i early)) (first.each i s p early)))
        (λ (late : length stripes ≤ i).
        subst (λ part. IsPartOf (get_or (stripes ++ more) i s) part) (sym (get_or-append_right parts others (length stripes) i p long late))
        (subst (λ stripe. IsPartOf stripe (get_or others (i - length stripes) p)) (sym (get_or-append_right stripes more (length stripes) i s refl late))
        (second.each (i - length stripes) s p (omega (arith, late, rest, within)))))
        (cases_lt i (length stripes));
  }

  pub parts-push : (stripes : List (StripeState C)) (stripe : StripeState C) (parts : List P) (part : P) → HavePartsOf IsPart stripes parts → IsPartOf stripe part
      → HavePartsOf IsPart (stripes ++ stripe ∷ []) (parts ++ part ∷ [])
  parts-push stripes stripe parts part before is = parts-append stripes (stripe ∷ []) parts (part ∷ []) before (record { all = refl; each = one })
    where
      one : (i : ℕ) (s : StripeState C) (p : P) → i < 1 → IsPartOf (get_or (stripe ∷ []) i s) (get_or (part ∷ []) i p)
      one zero s p within = is
      one (suc i) s p within = absurd (omega (arith, within))

  -- the parts of stripes that are all whole are those of all stripes
  pub all-parts : {setup : StripeSetup} {batches : List NumberedPieces} (stripes : List (StripeState C)) (parts : List P) → length stripes ≡ stripe_count setup
      → position_sum setup.rule.k batches ≤ 2 ^ 62 → AreWholeBefore setup batches stripes (length stripes) → HavePartsOf IsPart stripes parts → AreAllParts IsPart setup batches parts
  all-parts {setup} {batches} stripes parts one_each few whole have = record {
    few = few;
    all = have.all ∙ one_each;
    each = λ i part within.
        let long = have.all in
        let inside : i < length stripes = omega (arith, within, long) in
        let (stripe, there, is) = whole i inside in
        have.each i stripe part inside setup batches i (subst (IsWhole setup batches i) (sym (get_or_from_slice_get stripes i stripe stripe there)) is);
  }

pub item-at : {X : Type 0} (xs : List X) (i : ℕ) → i < length xs → (x : X) × (get_or xs i x ≡ x)
item-at [] i within = absurd (omega (arith, within))
item-at (x ∷ xs) zero within = (x, refl)
item-at (x ∷ xs) (suc i) within = item-at xs i (omega (arith, within))

-- the rows of all parts
pub rows-taken : (setup : StripeSetup) (batches : List NumberedPieces) (parts : List StripePart) (taken : List (Vec LooseSeen Global)) → taken ≡ map (λ part. part.rows) parts
    → AreAllParts (λ s b n part. HasRowsOf s b n part.rows) setup batches parts → AreAllParts HasRowsOf setup batches taken
rows-taken setup batches parts taken same are = record {
  few = are.few;
  all = ap length same ∙ length-map parts rows_in ∙ are.all;
  each = λ i rows within.
      let long = ap length same ∙ length-map parts rows_in in
      let inside : i < length parts = omega (arith, within, long) in
      let (part, is) = item-at parts i inside in
      subst (HasRowsOf setup batches i) (sym (ap (λ xs. get_or xs i rows) same ∙ get_or-map rows_in parts i part rows inside)) (are.each i part inside);
}
  where
    rows_in : StripePart → Vec LooseSeen Global
    rows_in part = part.rows
