use Rattle.std.proofs.Common.{◌++◌, ap, subst, arith}
use Rattle.std.proofs.lemmas.Result.{err_from_is_err_and}
use Rattle.kc_io.specs.Sinks.{Drains, HasBegun}
use Rattle.kc_io.proofs.SinksLemmas.{Pending, begin, last}
use Rattle.kc_combine.specs.CopySpectra.{rows_text}
use Rattle.kc_combine.proofs.SpectrumLemmas.{began_piece, next_piece, pieces_last, row_at, row_of_part}
use Rattle.kc_combine.proofs.spectrum_text.write_rows.Goals as goal

pub loop-copies-init : goal.loop-copies-init
unfolding rows_text
loop-copies-init g c =
    let s = g.W.Sink.seen c.args.writer.now in
    rw c.new-block.ensures (begin s (rows_text c.args.width c.args.cells.now))

pub returns-in_err-put_row : goal.returns-in_err-put_row
returns-in_err-put_row g c =
    let p = err_from_is_err_and c.from_residual.result c.from_residual.ensures.1 in
    let seen = g.W.Sink.seen in
    let begun = subst (λ v. HasBegun (seen c.loop-copies.writer) (seen c.put_row.new.writer) (c.loop-copies.block ++ v))
    (row_of_part c.args.width c.args.cells.now c.loop-copies.copies) c.in_err-put_row.ensures.err in rw p.1
    (began_piece (row_at c.args.width c.args.cells.now) c.loop-copies.block c.loop-copies.copies 6 c.loop-copies-test.true
    c.loop-copies.invariant begun)

pub loop-copies-preserved : goal.loop-copies-preserved
loop-copies-preserved g c =
    let seen = g.W.Sink.seen in
    let moved = subst (λ v. Drains (seen c.loop-copies.writer) (seen c.put_row.new.writer) (c.loop-copies.block ++ v) c.put_row.new.block)
    (row_of_part c.args.width c.args.cells.now c.loop-copies.copies) c.in_ok-put_row.ensures.ok in
    next_piece (row_at c.args.width c.args.cells.now) c.loop-copies.block c.loop-copies.copies 6 c.loop-copies-test.true
    c.loop-copies.invariant moved

pub returns : goal.returns
returns g c =
    let s = g.W.Sink.seen c.args.writer.now in
    let now = g.W.Sink.seen c.loop-copies.writer in
    let text = rows_text c.args.width c.args.cells.now in
    let none = ap (λ v. c.loop-copies.block ++ v) (pieces_last (row_at c.args.width c.args.cells.now) c.loop-copies.copies 6 (omega arith)) in
    last _ _ _ text c.loop-copies.block c.write_out.result (subst (Pending s now text) none c.loop-copies.invariant)
    (rw c.as_slice.ensures at c.write_out.ensures)
