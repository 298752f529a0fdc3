use Rattle.std.proofs.Common.{◌++◌, ◌∷◌, [], arith}
use Rattle.std.proofs.lemmas.Result.{err_from_is_err_and}
use Rattle.std.proofs.lemmas.List.{length_push}
use Rattle.kc_report.proofs.RowByRowLemmas.{given_few}
use Rattle.kc_report.proofs.table_numbers.read_numbers.Goals as goal

pub returns-in_err-row-clause-fault : goal.returns-in_err-row-clause-fault
returns-in_err-row-clause-fault g c =
    let (rows, given, counted) = c.rows.invariant in
    let p = err_from_is_err_and c.from_residual-in_err-row.result c.from_residual-in_err-row.ensures.1 in
    rw (p.1, p.2) (c.in_err-row.ensures.fault _ _ rows given)

pub rows-smaller : goal.rows-smaller
rows-smaller g c =
    let (rows, given, counted) = c.rows.invariant in
    let told = rw c.in-Some.is at c.in_ok-row.ensures.given _ _ rows given in
    omega (arith, given_few told, told.kept.count, given.kept.count, length_push rows c.in-Some.row)

pub rows-preserved : goal.rows-preserved
rows-preserved g c =
    let (rows, given, counted) = c.rows.invariant in
    let told = rw c.in-Some.is at c.in_ok-row.ensures.given _ _ rows given in
    (rows ++ c.in-Some.row ∷ [], told, c.count.ensures _ rows counted)

pub returns-clause-numbers : goal.returns-clause-numbers
returns-clause-numbers g c =
    let (rows, given, counted) = c.rows.invariant in
    let told = rw c.in_default.is at c.in_ok-row.ensures.given _ _ rows given in
    (_, told, counted)
