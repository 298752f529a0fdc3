use Rattle.std.proofs.Common.{◌≡◌, ◌∙◌, ◌+◌, get_or, ltb, ap, sym}
use Rattle.std.proofs.lemmas.Bool.{lt-ltb, le-ltb}
use Rattle.std.proofs.lemmas.List.Sums.{count_by_more_yes, count_by_more_no}
use Rattle.kc_word.specs.Cutting.{NumberedPieces}
use Rattle.kc_word.specs.Shared.{values}
use Rattle.kc_gather.proofs.Journals.{values-item}
use Rattle.kc_gather.proofs.journal.count_below.Goals.{then-number, else-number}
use Rattle.kc_gather.proofs.journal.count_below.Goals as goal

pub loop-batch-preserved : goal.loop-batch-preserved
loop-batch-preserved c =
    let journal = values c.args.journal.now in
    let i = c.loop-batch.batch-index in
    let there = c.deref.result.now in
    let item = values-item c.args.journal.now c.batch-item.result i there c.loop-batch-test.true c.batch-item.is c.deref.ensures in
    let is_below = λ (batch : NumberedPieces). ltb batch.number c.args.number in
    let same : ltb (get_or journal i there).number c.args.number ≡ ltb c.number.result c.args.number = ap (λ (batch : NumberedPieces). ltb batch.number c.args.number) (sym item.1) ∙ ap (λ n. ltb n c.args.number) (sym c.number.ensures) in
    elim c.if-number.branch [
      | then-number w ↦ w.below-is ∙ ap (λ n. n + 1) c.loop-batch.invariant
          ∙ sym (count_by_more_yes is_below journal i there item.0 (same ∙ lt-ltb c.number.result c.args.number w.if-number.true))
      | else-number w ↦ w.below-is ∙ c.loop-batch.invariant
          ∙ sym (count_by_more_no is_below journal i there item.0 (same ∙ le-ltb c.number.result c.args.number w.if-number.false))
    ]
