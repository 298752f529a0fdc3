use Rattle.std.proofs.Common.{arith, inr, sym}
use Rattle.std.proofs.lemmas.Result.{err_from_is_err_and}
use Rattle.std.proofs.lemmas.List.{length_push}
use Rattle.kc_report.specs.TableReading.{RefusesTable}
use Rattle.kc_report.proofs.DumpedTextLemmas.{dumps_row, ends_here, fails_at_end, fails_here, keeps_none, row_below, stops_here, unless_write}
use Rattle.kc_report.proofs.RowByRowLemmas.{given_few}
use Rattle.kc_report.proofs.dumped_text.write_dump_of_text.Goals as goal

pub rows-init : goal.rows-init
rows-init g c = keeps_none (g.W.Sink.seen c.args.writer.now) c.in_ok-reading.ensures.given (sym c.k-k.ensures) c.new-block.ensures

pub returns-in_err-row-clause-stopped : goal.returns-in_err-row-clause-stopped
returns-in_err-row-clause-stopped g c =
    let kept = c.rows.invariant in
    let p = err_from_is_err_and c.from_residual-in_err-row.result c.from_residual-in_err-row.ensures.1 in
    rw (p.1, p.2)
    (stops_here (g.S.Source.seen c.next_row.new.source) c.in_err-row.field-0.0 kept (c.in_err-row.ensures.given _ _ kept.rows kept.given) c.in_err-row.ensures.header)

pub returns-in_err-row-clause-fault : goal.returns-in_err-row-clause-fault
returns-in_err-row-clause-fault g c =
    let kept = c.rows.invariant in
    let p = err_from_is_err_and c.from_residual-in_err-row.result c.from_residual-in_err-row.ensures.1 in
    rw (p.1, p.2) (unless_write (RefusesTable (g.S.Source.seen c.args.source.now) (g.S.Source.seen c.next_row.new.source) c.args.limit)
    c.in_err-row.field-0.0 (c.in_err-row.ensures.fault _ _ kept.rows kept.given))

pub put_row-requires : goal.put_row-requires
put_row-requires g c =
    let kept = c.rows.invariant in
    record { below = row_below kept (rw c.in-Some.is at c.in_ok-row.ensures.comes).0 }

pub rows-smaller : goal.rows-smaller
rows-smaller g c =
    let kept = c.rows.invariant in
    let told = rw c.in-Some.is at c.in_ok-row.ensures.given _ _ kept.rows kept.given in
    omega (arith, given_few told, told.kept.count, kept.given.kept.count, length_push kept.rows c.in-Some.row)

pub rows-preserved : goal.rows-preserved
rows-preserved g c =
    let kept = c.rows.invariant in
    let told = rw c.in-Some.is at c.in_ok-row.ensures.given _ _ kept.rows kept.given in
    dumps_row c.in-Some.row kept told c.in_ok-row.ensures.header c.in_ok-put_row.ensures.ok
    (c.in_ok-put_row.ensures.few kept.few)

pub returns-in_err-put_row-clause-stopped : goal.returns-in_err-put_row-clause-stopped
returns-in_err-put_row-clause-stopped g c =
    let kept = c.rows.invariant in
    let told = rw c.in-Some.is at c.in_ok-row.ensures.given _ _ kept.rows kept.given in
    let p = err_from_is_err_and c.from_residual-in_err-put_row.result c.from_residual-in_err-put_row.ensures.1 in
    rw (p.1, p.2) (fails_here c.in-Some.row kept told c.in_ok-row.ensures.header c.in_err-put_row.ensures.err)

pub returns-in_err-write_out-clause-stopped : goal.returns-in_err-write_out-clause-stopped
returns-in_err-write_out-clause-stopped g c =
    let kept = c.rows.invariant in
    let told = rw c.in_default.is at c.in_ok-row.ensures.given _ _ kept.rows kept.given in
    let p = err_from_is_err_and c.from_residual-in_err-write_out.result c.from_residual-in_err-write_out.ensures.1 in
    rw (p.1, p.2) (record {
      rows = kept.rows;
      stand = c.next_row.new.self;
      given = inr told;
      begun = fails_at_end (g.W.Sink.seen c.write_out.new.writer) kept c.in_ok-row.ensures.header (rw c.as_slice.ensures at c.in_err-write_out.ensures);
    })

pub returns-clause-written : goal.returns-clause-written
returns-clause-written g c =
    let kept = c.rows.invariant in
    let told = rw c.in_default.is at c.in_ok-row.ensures.given _ _ kept.rows kept.given in
    record {
      table = _;
      given = told;
      written = ends_here (g.W.Sink.seen c.write_out.new.writer) kept c.in_ok-row.ensures.header (rw c.as_slice.ensures at c.in_ok-write_out.ensures);
    }
