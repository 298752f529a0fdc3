use Rattle.std.proofs.Common.{sym, ◌∙◌}
use Rattle.kc_report.proofs.FieldLemmas.{as_it_is}
use Rattle.kc_report.proofs.QueryLemmas.{form_true}
use Rattle.kc_report.proofs.queries.counted_form.Goals as goal

pub returns-then-both-clause-formed : goal.returns-then-both-clause-formed
returns-then-both-clause-formed c = rw c.if-both.true (c.canonical.ensures.lesser ∙ sym (form_true _))

pub returns-else-both-clause-formed : goal.returns-else-both-clause-formed
returns-else-both-clause-formed c = rw c.if-both.false (sym (as_it_is _))
