use Rattle.std.proofs.lemmas.Result.{err_from_is_err_and}
use Rattle.kc_gzip.proofs.IntakesLemmas.{filled_fails}
use Rattle.kc_report.proofs.WordListLemmas.{block_came, end_came}
use Rattle.kc_report.proofs.word_list.take_text.Goals as goal

pub returns-in_err-fill-clause-fault : goal.returns-in_err-fill-clause-fault
returns-in_err-fill-clause-fault g c =
    let p = err_from_is_err_and c.from_residual.result c.from_residual.ensures.1 in
    rw (p.1, p.2) (filled_fails (g.R.Source.seen c.fill.new.source) c.in_err-fill.field-0.0 c.filling.invariant
    c.in_err-fill.ensures.filled)

pub returns-then-not-branch-clause-filled : goal.returns-then-not-branch-clause-filled
returns-then-not-branch-clause-filled g c =
    (end_came c.in_ok-fill.field-0 c.filling.invariant c.if-not-branch.true c.in_ok-fill.ensures.filled).0

pub returns-then-not-branch-clause-ended : goal.returns-then-not-branch-clause-ended
returns-then-not-branch-clause-ended g c =
    (end_came c.in_ok-fill.field-0 c.filling.invariant c.if-not-branch.true c.in_ok-fill.ensures.filled).1

pub filling-preserved : goal.filling-preserved
filling-preserved g c =
    (block_came c.in_ok-fill.field-0 c.filling.invariant c.if-not-branch.false c.in_ok-fill.ensures.filled).0

pub filling-smaller : goal.filling-smaller
filling-smaller g c =
    (block_came c.in_ok-fill.field-0 c.filling.invariant c.if-not-branch.false c.in_ok-fill.ensures.filled).1
