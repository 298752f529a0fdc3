use Rattle.kc_report.proofs.LineLemmas.{ends_used}
use Rattle.kc_report.proofs.RowByRowLemmas.{no_fault}
use Rattle.kc_report.proofs.table_reading.TableReading.row_at_hand.Goals as goal

pub invariant_of-self-2 : goal.invariant_of-self-2
invariant_of-self-2 c =
    let few = rw c.in-Some.is at c.self.invariant.0 in
    rw c.use_up.ensures
    (ends_used c.in-Some-next_row.size c.in-Some.intake.bytes few, no_fault _ c.self.inside.failed c.self.invariant.1 c.in-Some.is)

pub returns-clause-few : goal.returns-clause-few
returns-clause-few c = (invariant_of-self-2 c).0
