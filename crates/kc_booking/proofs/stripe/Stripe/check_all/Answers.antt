use Rattle.std.proofs.Common.{◌≡◌, ◌∙◌, ◌++◌, ap, inl, inr, refl, rules, sym}
use Rattle.kc_word.specs.Shared.{values}
use Rattle.kc_booking.specs.Cuts.{IsOwnRound}
use Rattle.kc_booking.specs.Stripe.{IsBooked, NumbersDiffer}
use Rattle.kc_booking.proofs.RoundLemmas.{IsSharedAt, value_at, NumbersDiffer-right, NoneBooked-more, values-differ, booked_before, of_first, new_first, new_refused, stranger_refused}
use Rattle.kc_booking.proofs.ListedLemmas.{other_setup}
use Rattle.kc_booking.proofs.stripe.Stripe.check_all.Goals as goal
use Rattle.kc_booking.proofs.stripe.Stripe.check_all.Goals.{then-ne-via-then-ne, then-ne-via-else-ne+then-cuts-self}

pub returns-then-has_booked-clause-twice : goal.returns-then-has_booked-clause-twice
returns-then-has_booked-clause-twice g c =
    let booked = rw c.if-has_booked.true at c.has_booked.ensures in
    let first = of_first (λ b. IsBooked c.args.self.now.journal b.number) c.cuts.inside.batches.now
    c.index-cuts-0.result (rw (← c.cuts.view_is) at c.requires) booked in
    rw (← c.cuts.view_is) (λ _. inl first, λ _. refl)

pub returns-then-has_booked-clause-stranger : goal.returns-then-has_booked-clause-stranger
returns-then-has_booked-clause-stranger g c =
    let booked = rw c.if-has_booked.true at c.has_booked.ensures in
    let first = of_first (λ b. IsBooked c.args.self.now.journal b.number) c.cuts.inside.batches.now
    c.index-cuts-0.result (rw (← c.cuts.view_is) at c.requires) booked in
    rw (← c.cuts.view_is) (λ never. absurd (cc never), λ both. absurd (new_first _ _ both.0 first))

pub returns-then-ne : goal.returns-then-ne
returns-then-ne g c =
    let new = of_first (λ b. ¬ IsBooked c.args.self.now.journal b.number) c.cuts.inside.batches.now
    c.index-cuts-0.result (rw (← c.cuts.view_is) at c.requires) (rw c.if-has_booked.false at c.has_booked.ensures) in
    let other : ¬ ((c.cuts.inside.setup.now ≡ c.self.inside.setup) × (c.cuts.inside.stripe ≡ c.self.inside.number)) = elim c.then-ne.branch [
      | then-ne-via-then-ne w ↦ λ own. other_setup _ _ w.if-ne.ensures (own.0 ∙ ap (λ s. s.setup) (sym c.self-inside.view_is))
      | then-ne-via-else-ne+then-cuts-self w ↦ λ own. w.if-cuts-self.true (own.1 ∙ ap (λ s. s.number) (sym c.self-inside.view_is))
    ] in
    rw (← c.self.view_is, ← c.cuts.view_is)
    (record {
      new = tt;
      own = tt;
      room = tt;
      twice = (λ never. absurd (cc never), λ refused. absurd (stranger_refused _ _ _ (rw (← c.self.view_is) at new) other refused));
      stranger = (λ _. (rw (← c.self.view_is) at new, other), λ _. refl);
      full = λ never. absurd (cc never);
      memory = λ never. absurd (cc never);
    })

pub returns-then-not-cuts-clause-twice : goal.returns-then-not-cuts-clause-twice
returns-then-not-cuts-clause-twice g c =
    let own : IsOwnRound c.args.self.now c.args.cuts.now = search rules in
    let again : ¬ NumbersDiffer c.args.cuts.now.batches = rw (← c.cuts.view_is) (rw c.if-not-cuts.true at c.cuts.invariant.differ_is) in
    (λ _. inr (own, λ differ. again (NumbersDiffer-right c.args.self.now.journal c.args.cuts.now.batches differ)), λ _. refl)

pub returns-then-has_booked-2-clause-twice : goal.returns-then-has_booked-2-clause-twice
returns-then-has_booked-2-clause-twice g c =
    let own : IsOwnRound c.args.self.now c.args.cuts.now = search rules in
    let at : IsSharedAt c.cuts.inside.batches.now c.loop-batch.batch-index c.batch-item.result =
    record { within = c.loop-batch-test.true; is = c.batch-item.is } in
    let booked = rw c.if-has_booked-2.true at c.has_booked-in-loop-batch.ensures in
    let again : ¬ NumbersDiffer (c.args.self.now.journal ++ c.args.cuts.now.batches) =
    rw (← c.cuts.view_is)
    (booked_before c.args.self.now.journal (values c.cuts.inside.batches.now) c.loop-batch.batch-index c.batch-item.result.value (value_at at) booked) in
    (λ _. inr (own, again), λ _. refl)

pub loop-batch-preserved : goal.loop-batch-preserved
loop-batch-preserved g c =
    let at : IsSharedAt c.cuts.inside.batches.now c.loop-batch.batch-index c.batch-item.result =
    record { within = c.loop-batch-test.true; is = c.batch-item.is } in
    let new = rw c.if-has_booked-2.false at c.has_booked-in-loop-batch.ensures in
    NoneBooked-more c.args.self.now.journal (values c.cuts.inside.batches.now) c.loop-batch.batch-index c.batch-item.result.value (value_at at) new c.loop-batch.invariant

pub returns-then-cuts-self-2-clause-twice : goal.returns-then-cuts-self-2-clause-twice
returns-then-cuts-self-2-clause-twice g c =
    let differ = values-differ _ _ _ c.loop-batch.batch-index refl c.loop-batch-test.false (rw (← c.self.view_is) c.self.invariant.0.numbers_differ)
    (rw c.if-not-cuts.false at c.cuts.invariant.differ_is) c.loop-batch.invariant in
    rw (← c.cuts.view_is) (λ never. absurd (cc never), λ refused. absurd (new_refused _ _ _ differ refused))

pub returns-clause-new : goal.returns-clause-new
returns-clause-new g c =
    rw (← c.cuts.view_is)
    (values-differ _ _ _ c.loop-batch.batch-index refl c.loop-batch-test.false (rw (← c.self.view_is) c.self.invariant.0.numbers_differ)
    (rw c.if-not-cuts.false at c.cuts.invariant.differ_is) c.loop-batch.invariant)

pub returns-clause-twice : goal.returns-clause-twice
returns-clause-twice g c =
    let differ = values-differ _ _ _ c.loop-batch.batch-index refl c.loop-batch-test.false (rw (← c.self.view_is) c.self.invariant.0.numbers_differ)
    (rw c.if-not-cuts.false at c.cuts.invariant.differ_is) c.loop-batch.invariant in
    rw (← c.cuts.view_is) (λ never. absurd (cc never), λ refused. absurd (new_refused _ _ _ differ refused))
