use Rattle.std.proofs.Common.{◌≡◌, ◌++◌, ◌∷◌, [], arith, refl}
use Rattle.std.proofs.lemmas.List.{length_push}
use Rattle.std.proofs.lemmas.List.Sums.{sum_by-append, sum_by-cons}
use Rattle.std.proofs.lemmas.Result.{err_from_is_err_and}
use Rattle.kc_tally.specs.declared.row.Row.{Row}
use Rattle.kc_report.proofs.RowByRowLemmas.{given_few}
use Rattle.kc_combine.proofs.judged_texts.judge_text.Goals as goal

pub returns-in_err-row-clause-fault : goal.returns-in_err-row-clause-fault
returns-in_err-row-clause-fault g c =
    let (rows, given, total) = c.rows.invariant in
    let p = err_from_is_err_and c.from_residual-in_err-row.result c.from_residual-in_err-row.ensures.1 in
    rw (p.1, p.2) (c.in_err-row.ensures.fault _ _ rows given)

pub rows-smaller : goal.rows-smaller
rows-smaller g c =
    let (rows, given, total) = c.rows.invariant in
    let next = rw c.in-Some.is at c.in_ok-row.ensures.given _ _ rows given in
    omega (arith, given_few next, next.kept.count, given.kept.count, length_push rows c.in-Some.row)

pub rows-preserved : goal.rows-preserved
rows-preserved g c =
    let (rows, given, total) = c.rows.invariant in
    let next = rw c.in-Some.is at c.in_ok-row.ensures.given _ _ rows given in
    let all = sum_by-append (λ (row : Row). row.count) rows (c.in-Some.row ∷ []) in
    let last = sum_by-cons (λ (row : Row). row.count) c.in-Some.row [] in
    (rows ++ c.in-Some.row ∷ [], next, omega (arith, total, all, last))

pub returns-clause-judged : goal.returns-clause-judged
returns-clause-judged g c =
    let (rows, given, total) = c.rows.invariant in
    let whole = rw c.in_default.is at c.in_ok-row.ensures.given _ _ rows given in
    let is = c.header_of.ensures in
    (_, whole, λ i. record { k = is.k i; both = is.both i; origin = is.origin i }, total)
