use Rattle.std.proofs.Common.{◌+◌, ap, sym, ◌∙◌, subst, arith}
use Rattle.kc_tally.proofs.TalliedRows.{IsTalliedTo, IsTalliedTo-yes, IsTalliedTo-no, IsTalliedTo-all, words-below}
use Rattle.kc_tally.proofs.slow_tally.tally.Goals as goal
use Rattle.kc_tally.proofs.slow_tally.tally.Goals.{then-count-gt0+in_ok-push, else-count-gt0}

pub occurrences-count-requires-clause-below : goal.occurrences-count-requires-clause-below
occurrences-count-requires-clause-below c =
    let words = words-below c.args.rule.now.k c.get.result (c.get.ensures.value ∙ c.k.ensures) (omega arith) in
    omega (arith, words)

pub loop-word-preserved : goal.loop-word-preserved
loop-word-preserved c =
    elim c.if-count-gt0.branch [
      | then-count-gt0+in_ok-push w ↦ subst (λ rows. IsTalliedTo c.args.rule.now c.args.reads.now (c.loop-word.word + 1) rows) (sym (ap (λ v. v.items) w.rows-is ∙ w.in_ok-push.ensures.items))
          (IsTalliedTo-yes c.args.rule.now c.args.reads.now c.loop-word.word c.occurrences-count.result c.loop-word.rows.items w.if-count-gt0.true c.occurrences-count.ensures c.loop-word.invariant)
      | else-count-gt0 w ↦ subst (λ rows. IsTalliedTo c.args.rule.now c.args.reads.now (c.loop-word.word + 1) rows) (sym (ap (λ v. v.items) w.rows-is))
          (IsTalliedTo-no c.args.rule.now c.args.reads.now c.loop-word.word c.occurrences-count.result c.loop-word.rows.items w.if-count-gt0.false c.occurrences-count.ensures c.loop-word.invariant)
    ]

pub returns : goal.returns
returns c =
    let words = words-below c.args.rule.now.k c.get.result (c.get.ensures.value ∙ c.k.ensures) (omega arith) in
    IsTalliedTo-all c.args.rule.now c.args.reads.now c.loop-word.word c.loop-word.rows.items (omega (arith, words)) c.loop-word.invariant
