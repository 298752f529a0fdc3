use Rattle.std.proofs.Common.{◌≡◌, Ok, Some, sym, subst}
use Rattle.kc_report.specs.RowByRow.{TableStand, HasGivenRows}
use Rattle.kc_report.proofs.RowByRowLemmas.{given_row, answer_refuses, gives_only, gives_none}
use Rattle.kc_report.proofs.table_reading.TableReading.next_row.Goals as goal

pub returns-in-Some-clause-given : goal.returns-in-Some-clause-given
returns-in-Some-clause-given g c = λ start limit rows h. given_row h c.in-Some.ensures.some

pub returns-in-Some-clause-at_once : goal.returns-in-Some-clause-at_once
returns-in-Some-clause-at_once g c = gives_only c.in-Some.ensures.some

pub returns-in-None-clause-at_once : goal.returns-in-None-clause-at_once
returns-in-None-clause-at_once g c =
    gives_none (λ row. c.row_of_source.result ≡ Ok (Some row)) _ _ c.in-None.ensures.no_row

pub returns-in-None-clause-fault : goal.returns-in-None-clause-fault
returns-in-None-clause-fault g c = λ start limit rows h.
    let seen = g.S.Source.seen in
    let same = subst (λ (s : TableStand). HasGivenRows start (seen c.args.source.now) limit rows s)
    (sym c.in-None.ensures.none) h in
    answer_refuses start (seen c.row_of_source.new.source) limit rows c.row_of_source.new.self c.row_of_source.result
    (c.row_of_source.ensures.given start limit rows same)
