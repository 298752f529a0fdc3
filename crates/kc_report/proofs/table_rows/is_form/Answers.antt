use Rattle.std.proofs.Common.{refl}
use Rattle.kc_report.proofs.FieldLemmas.{as_it_is}
use Rattle.kc_report.proofs.table_rows.is_form.Goals as goal

pub returns-then-both : goal.returns-then-both
returns-then-both c = rw c.if-both.true c.is_lesser.ensures

pub returns-else-both : goal.returns-else-both
returns-else-both c = rw c.if-both.false (λ h. as_it_is _, λ h. refl)
