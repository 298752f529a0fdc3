use Rattle.std.proofs.Common.{◌≤◌, ◌+◌, length, arith}
use Rattle.std.proofs.lemmas.List.{length-map}
use Rattle.kc_word.specs.Shared.{values}
use Rattle.kc_gather.proofs.Journals.{least_missing}
use Rattle.kc_gather.proofs.journal.first_missing.Goals as goal

pub returns-clause-least : goal.returns-clause-least
returns-clause-least c =
    let long = length-map c.args.batches.now (λ batch. batch.value) in
    let kept = c.loop-to.invariant in
    let within : c.loop-to.to ≤ length (values c.args.batches.now) = omega (arith, kept.within, long) in
    let next : c.loop-to.to ≤ c.loop-to.from + 1 = omega (arith, kept.less, c.loop-to-test.false) in
    least_missing (values c.args.batches.now) (values c.args.journal.now) c.loop-to.from c.loop-to.to c.requires.differ c.requires.given within kept.all kept.not_all kept.less next
