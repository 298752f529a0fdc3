use Rattle.kc_word.specs.Shared.{values}
use Rattle.kc_gather.proofs.Journals.{given_at, values-item, is_given-at, given_past}
use Rattle.kc_gather.proofs.journal.is_given.Goals as goal

pub returns-then-number-batches : goal.returns-then-number-batches
returns-then-number-batches c =
    is_given-at _ c.args.batch.now c.deref.result.now c.eq.result
    (given_at (values c.args.batches.now) c.args.batch.now.number c.number-number.result c.deref.result.now c.number-number.ensures
    (values-item c.args.batches.now c.index-batches-number.result c.number-number.result c.deref.result.now c.if-number-batches.true c.index-batches-number.is c.deref.ensures))
    c.eq.ensures

pub returns-else-number-batches : goal.returns-else-number-batches
returns-else-number-batches c = given_past c.args.batches.now c.args.batch.now c.number-number.result c.number-number.ensures c.if-number-batches.false
