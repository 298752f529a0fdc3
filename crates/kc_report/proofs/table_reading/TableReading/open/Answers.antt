use Rattle.std.proofs.Common.{take, ap}
use Rattle.std.proofs.lemmas.Result.{err_from_is_err_and}
use Rattle.kc_gzip.proofs.IntakesLemmas.{filled_none}
use Rattle.kc_report.proofs.LineLemmas.{ends_used, ends_empty, ends_found}
use Rattle.kc_report.proofs.TableReadingLemmas.{begun, in_front, header_missing, header_refused, header_used}
use Rattle.kc_report.proofs.TableReadingLemmas.{begun_in_vain, taking_refused}
use Rattle.kc_report.proofs.RowByRowLemmas.{given_none, header_refuses, refuses}
use Rattle.kc_report.proofs.table_reading.TableReading.open.Goals as goal

pub returns-in_err-intake-clause-refused : goal.returns-in_err-intake-clause-refused
returns-in_err-intake-clause-refused g c =
    let p = err_from_is_err_and c.from_residual.result c.from_residual.ensures.1 in
    rw (p.1, p.2) (begun_in_vain (g.S.Source.seen c.args.source.now) c.args.limit)

pub returns-in_err-intake-clause-fault : goal.returns-in_err-intake-clause-fault
returns-in_err-intake-clause-fault g c =
    let start = g.S.Source.seen c.args.source.now in
    refuses _ (header_refuses start start c.args.limit) (returns-in_err-intake-clause-refused g c)

pub returns-in_err-count-clause-refused : goal.returns-in_err-count-clause-refused
returns-in_err-count-clause-refused g c =
    let found = c.in_err-count.ensures in
    let p = err_from_is_err_and c.from_residual-in_err-count.result c.from_residual-in_err-count.ensures.1 in
    rw (p.1, p.2) (taking_refused (g.S.Source.seen c.first_line.new.reader) c.in_err-count.field-0.0
    (begun c.in_ok-intake.ensures (filled_none (g.S.Source.seen c.args.source.now) c.in_ok-intake.intake)) found.0)

pub returns-in_err-count-clause-fault : goal.returns-in_err-count-clause-fault
returns-in_err-count-clause-fault g c =
    refuses _ (header_refuses (g.S.Source.seen c.args.source.now) (g.S.Source.seen c.first_line.new.reader) c.args.limit)
    (returns-in_err-count-clause-refused g c)

pub returns-in_default-clause-refused : goal.returns-in_default-clause-refused
returns-in_default-clause-refused g c =
    let found = rw c.in_default.is at c.in_ok-count.ensures in
    header_missing (begun c.in_ok-intake.ensures found.0) found.1 found.2

pub returns-in_default-clause-fault : goal.returns-in_default-clause-fault
returns-in_default-clause-fault g c = returns-in_default-clause-refused g c

pub returns-in_err-skip_rest-clause-refused : goal.returns-in_err-skip_rest-clause-refused
returns-in_err-skip_rest-clause-refused g c =
    let found = rw c.in-Some.is at c.in_ok-count.ensures in
    let p = err_from_is_err_and c.from_residual-in_err-skip_rest.result c.from_residual-in_err-skip_rest.ensures.1 in
    rw (p.1, p.2) (taking_refused (g.S.Source.seen c.skip_rest.new.source) c.in_err-skip_rest.field-0.0
    (begun c.in_ok-intake.ensures found.0) c.in_err-skip_rest.ensures)

pub returns-in_err-skip_rest-clause-fault : goal.returns-in_err-skip_rest-clause-fault
returns-in_err-skip_rest-clause-fault g c =
    refuses _ (header_refuses (g.S.Source.seen c.args.source.now) (g.S.Source.seen c.skip_rest.new.source) c.args.limit)
    (returns-in_err-skip_rest-clause-refused g c)

pub returns-in_default-header_of-clause-refused : goal.returns-in_default-header_of-clause-refused
returns-in_default-header_of-clause-refused g c =
    let found = rw c.in-Some.is at c.in_ok-count.ensures in
    header_refused (begun c.in_ok-intake.ensures found.0) c.in_ok-skip_rest.ensures
    (in_front found.2 (ap (take c.in-Some.count) c.as_slice.ensures)) c.in_default-header_of.ensures.none

pub returns-in_default-header_of-clause-fault : goal.returns-in_default-header_of-clause-fault
returns-in_default-header_of-clause-fault g c = returns-in_default-header_of-clause-refused g c

pub returns-clause-few : goal.returns-clause-few
returns-clause-few g c =
    let found = rw c.in-Some.is at c.in_ok-count.ensures in
    let empty = ends_empty c.in_ok-intake.intake.bytes (ap (λ u. u.bytes) c.in_ok-intake.ensures) in
    rw c.use_up.ensures (ends_used c.in-Some.count c.first_line.new.intake.bytes (ends_found _ _ found.3 empty))

pub invariant_of-result : goal.invariant_of-result
invariant_of-result g c = (returns-clause-few g c, tt)

pub returns-clause-given : goal.returns-clause-given
returns-clause-given g c =
    let found = rw c.in-Some.is at c.in_ok-count.ensures in
    let head = c.in-Some-header_of in
    rw (c.use_up.ensures, c.new-2.ensures)
    (given_none _ _ _
    (header_used _ _ _ (begun c.in_ok-intake.ensures found.0)
    (in_front found.2 (ap (take c.in-Some.count) c.as_slice.ensures))
    (record { some = head.ensures.least; most = head.ensures.most; said = head.ensures.origin })
    head.ensures.some))
