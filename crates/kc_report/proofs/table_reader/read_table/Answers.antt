use Rattle.std.proofs.Common.{arith}
use Rattle.std.proofs.lemmas.Result.{err_from_is_err_and}
use Rattle.std.proofs.lemmas.List.{length_push}
use Rattle.kc_report.proofs.RowByRowLemmas.{given_packs, given_few, rows_in_vain, table_in_vain}
use Rattle.kc_report.proofs.table_reader.read_table.Goals as goal

pub returns-in_err-row-clause-fault : goal.returns-in_err-row-clause-fault
returns-in_err-row-clause-fault g c =
    let p = err_from_is_err_and c.from_residual-in_err-row.result c.from_residual-in_err-row.ensures.1 in
    rw (p.1, p.2) (c.in_err-row.ensures.fault _ _ _ c.rows.invariant)

pub returns-in_err-tally-clause-fault : goal.returns-in_err-tally-clause-fault
returns-in_err-tally-clause-fault g c =
    let told = rw c.in_default.is at c.in_ok-row.ensures.given _ _ _ c.rows.invariant in
    let p = err_from_is_err_and c.from_residual-in_err-tally.result c.from_residual-in_err-tally.ensures.1 in
    rw (p.1, p.2) (table_in_vain told.bytes told.taken)

pub returns-in_default-clause-table : goal.returns-in_default-clause-table
returns-in_default-clause-table g c =
    let told = rw c.in_default.is at c.in_ok-row.ensures.given _ _ _ c.rows.invariant in
    rw (c.in_ok-tally.ensures, c.k.ensures, c.both.ensures, c.origin.ensures) told

pub push-requires-clause-word : goal.push-requires-clause-word
push-requires-clause-word g c =
    let told = rw c.in-Some.is at c.in_ok-row.ensures.given _ _ _ c.rows.invariant in (given_packs c.rows.rows c.in-Some.row told).0

pub push-requires-clause-present : goal.push-requires-clause-present
push-requires-clause-present g c =
    let told = rw c.in-Some.is at c.in_ok-row.ensures.given _ _ _ c.rows.invariant in (given_packs c.rows.rows c.in-Some.row told).1

pub rows-preserved : goal.rows-preserved
rows-preserved g c =
    let told = rw c.in-Some.is at c.in_ok-row.ensures.given _ _ _ c.rows.invariant in rw c.in_ok-push.ensures.more told

pub rows-smaller : goal.rows-smaller
rows-smaller g c =
    let told = rw c.in-Some.is at c.in_ok-row.ensures.given _ _ _ c.rows.invariant in
    let few = given_few told in
    rw c.in_ok-push.ensures.more (omega (arith, few, length_push c.rows.rows c.in-Some.row))

pub returns-in_err-push-clause-fault : goal.returns-in_err-push-clause-fault
returns-in_err-push-clause-fault g c =
    let told = rw c.in-Some.is at c.in_ok-row.ensures.given _ _ _ c.rows.invariant in
    let p = err_from_is_err_and c.from_residual-in_err-push.result c.from_residual-in_err-push.ensures.1 in
    rw (p.1, p.2) (rows_in_vain told)
