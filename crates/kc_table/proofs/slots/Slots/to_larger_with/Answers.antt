use Rattle.std.proofs.Common.{◌≡◌, subst, arith, rules, inl, inr}
use Rattle.std.proofs.lemmas.Bool.{cases_lt}
use Rattle.kc_table.specs.QuotientTable.{MayBeTooSmall}
use Rattle.kc_table.specs.Slot.{counts_of}
use Rattle.kc_table.proofs.Resizing.{small_by_out}
use Rattle.kc_table.proofs.slots.Slots.to_larger_with.Goals as goal

pub loop-log-preserved : goal.loop-log-preserved
loop-log-preserved c =
    let counts = counts_of c.args.self.now.log c.args.self.now.slots.items in
    let bits = rw c.in-Some.is at c.in-Ok.ensures.bits in
    let log = rw c.in-Some.is at c.in-Ok.ensures.log in
    let same = rw c.in-Some.is at c.in-Ok.ensures.same in
    λ l from below. elim (cases_lt l c.loop-log.log) [
      | inl before ↦ c.loop-log.invariant l from before
      | inr past ↦ let here : c.loop-log.log ≡ l = omega arith in
          subst (λ n. MayBeTooSmall c.args.self.now.bits n counts c.args.key) here
          (small_by_out _ _ c.args.key counts c.in-Some.table
          (record { same_bits = bits; same_log = log; same_counts = same }) c.requires.in_range
          (c.take.ensures.out (search rules)))
    ]

pub loop-log-preserved-in_default-resized : goal.loop-log-preserved-in_default-resized
loop-log-preserved-in_default-resized c =
    let counts = counts_of c.args.self.now.log c.args.self.now.slots.items in
    let narrow = rw c.in_default-resized.is at c.in-Ok.ensures.narrow in
    let crowded = rw c.in_default-resized.is at c.in-Ok.ensures.crowded in
    λ l from below. elim (cases_lt l c.loop-log.log) [
      | inl before ↦ c.loop-log.invariant l from before
      | inr past ↦ let here : c.loop-log.log ≡ l = omega arith in
          subst (λ n. MayBeTooSmall c.args.self.now.bits n counts c.args.key) here (narrow, inr crowded)
    ]

pub returns-then-take-clause-smallest : goal.returns-then-take-clause-smallest
returns-then-take-clause-smallest c =
    let log = rw c.in-Some.is at c.in-Ok.ensures.log in
    λ l from below. c.loop-log.invariant l from (omega (arith, log, c.take.ensures.log))

pub returns-clause-full : goal.returns-clause-full
returns-clause-full c =
    λ _. c.loop-log.invariant c.args.max_log c.requires.may_grow (omega (arith, c.loop-log-test.false))
