-- Stripes that are looked at in order, and what was found of them.
use Rattle.std.proofs.Common.{◌≡◌, ℕ, ◌+◌, ◌<◌, ◌≤◌, List, length, get_or, slice_get, Result, Ok, Err, OnOk, IfErr, ap, sym, subst, ◌∙◌, ⊎_elim, arith}
use Rattle.std.proofs.lemmas.Bool.{cases_lt}
use Rattle.std.proofs.lemmas.Option.{slice_get-get_or}
use Rattle.kc_word.specs.Cutting.{NumberedPieces}
use Rattle.kc_booking.specs.Setup.{StripeSetup}
use Rattle.kc_booking.specs.Stripe.{StripeState}
use Rattle.kc_gather.specs.declared.gather_fault.GatherFault.{GatherFault}
use Rattle.kc_gather.specs.declared.gather_fault.GatherFault.TheVariants.{Foreign, Missing, Memory}
use Rattle.kc_gather.specs.Gathering.{IsOwn, IsWhole, AreWholeIn, AreWholeBefore, IsRefusedIn, IsRefusal, StandsThere}

module _ {C : Type 0} (setup : StripeSetup) (batches : List NumberedPieces) (stripes : List (StripeState C)) where
  pub stands-at : {Is : StripeState C → Type 0} (i : ℕ) (d : StripeState C) → i < length stripes → Is (get_or stripes i d) → StandsThere stripes i Is
  stands-at i d within it = (get_or stripes i d, slice_get-get_or stripes i d within, it)

  pub one-more-whole : (from i : ℕ) → AreWholeIn setup batches stripes from i → StandsThere stripes i (IsWhole setup batches i) → AreWholeIn setup batches stripes from (i + 1)
  one-more-whole from i before here j behind less = ⊎_elim
      (λ (earlier : j < i). before j behind earlier)
      (λ (last : i ≤ j). let same : i ≡ j = omega (arith, last, less) in subst (λ n. StandsThere stripes n (IsWhole setup batches n)) same here)
      (cases_lt j i)

  -- two ranges, one after the other
  pub both-whole : (from middle to : ℕ) → AreWholeIn setup batches stripes from middle → AreWholeIn setup batches stripes middle to → AreWholeIn setup batches stripes from to
  both-whole from middle to first second i behind before = ⊎_elim
      (λ (earlier : i < middle). first i behind earlier)
      (λ (later : middle ≤ i). second i later before)
      (cases_lt i middle)

  pub refused-first : (from middle to : ℕ) (fault : GatherFault) → middle ≤ to → IsRefusedIn setup batches stripes from middle fault → IsRefusedIn setup batches stripes from to fault
  refused-first from middle to fault within refused = record {
    at = refused.at;
    behind = refused.behind;
    before = let less = refused.before in omega (arith, less, within);
    whole = refused.whole;
    refusal = refused.refusal;
  }

  refused-second : (from middle to : ℕ) (fault : GatherFault) → from ≤ middle → AreWholeIn setup batches stripes from middle → IsRefusedIn setup batches stripes middle to fault
      → IsRefusedIn setup batches stripes from to fault
  refused-second from middle to fault within first refused = record {
    at = refused.at;
    behind = let more = refused.behind in omega (arith, more, within);
    before = refused.before;
    whole = both-whole from middle refused.at first refused.whole;
    refusal = refused.refusal;
  }

  -- if those of the first range are whole, the second range decides
  pub second-told : {R : Type 0} (from middle to : ℕ) (result : Result R GatherFault) → from ≤ middle → AreWholeIn setup batches stripes from middle
      → OnOk result (AreWholeIn setup batches stripes middle to) × IfErr result (IsRefusedIn setup batches stripes middle to)
      → OnOk result (AreWholeIn setup batches stripes from to) × IfErr result (IsRefusedIn setup batches stripes from to)
  second-told from middle to (Ok done) within first told = (both-whole from middle to first told.0, tt)
  second-told from middle to (Err fault) within first told = (tt, refused-second from middle to fault within first told.1)

-- the same of all stripes
module _ {C : Type 0} {setup : StripeSetup} {batches : List NumberedPieces} (given stripes : List (StripeState C)) (n : ℕ) (same : given ≡ stripes) where
  pub whole-told : n ≡ length stripes → AreWholeIn setup batches given 0 n → AreWholeBefore setup batches stripes (length stripes)
  whole-told many whole i less = subst (λ xs. StandsThere xs i (IsWhole setup batches i)) same (whole i (omega arith) (omega (arith, less, many)))

  before : (at i : ℕ) → at ≡ i → AreWholeIn setup batches given 0 at → AreWholeBefore setup batches stripes i
  before at i is whole j less = subst (λ xs. StandsThere xs j (IsWhole setup batches j)) same (whole j (omega arith) (omega (arith, less, is)))

  pub refused-told : (fault : GatherFault) → IsRefusedIn setup batches given 0 n fault → IsRefusal setup batches stripes fault
  refused-told (Foreign i) refused =
      let (stripe, there, why) = refused.refusal in (
        before refused.at i (sym why.0) refused.whole,
        (stripe, ap (λ xs. slice_get xs i) (sym same) ∙ ap (slice_get given) why.0 ∙ there, subst (λ at. ¬ IsOwn setup batches at stripe) (sym why.0) why.1),
      )
  refused-told (Missing i lacking) refused =
      let (stripe, there, why) = refused.refusal in (
        before refused.at i (sym why.0) refused.whole,
        (stripe, ap (λ xs. slice_get xs i) (sym same) ∙ ap (slice_get given) why.0 ∙ there, (subst (λ at. IsOwn setup batches at stripe) (sym why.0) why.1, why.2)),
      )
  refused-told Memory refused = absurd (let (stripe, there, never) = refused.refusal in never)
