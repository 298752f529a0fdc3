use Rattle.std.proofs.Common.{◌∙◌, sym, subst}
use Rattle.kc_report.specs.RowByRow.{TableStand, tally_of, RefusesRow}
use Rattle.kc_report.proofs.RowByRowLemmas.{taken_out}
use Rattle.kc_report.proofs.table_reading.TableReading.row_of_source.Goals as goal

pub returns-in-Err-clause-given : goal.returns-in-Err-clause-given
returns-in-Err-clause-given g c = λ start limit rows h.
    let some = sym c.take.ensures.value ∙ c.in-Some-take.is in
    let told = c.in-Err.ensures.given start limit rows (taken_out c.in-Some-take.intake c.self.view_is some h) in
    subst (λ (s : TableStand). RefusesRow start (g.S.Source.seen c.row_of_line.new.source) limit (tally_of s rows)
    c.in-Err.fault) (sym c.self-2.view_is) told
