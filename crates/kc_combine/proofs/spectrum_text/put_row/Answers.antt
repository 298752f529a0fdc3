use Rattle.std.proofs.Common.{◌++◌, length, ap, subst, arith}
use Rattle.std.proofs.lemmas.Result.{err_from_is_err_and}
use Rattle.kc_io.proofs.SinksLemmas.{Pending, begin, began_front}
use Rattle.kc_combine.specs.CopySpectra.{row_text}
use Rattle.kc_combine.proofs.SpectrumLemmas.{drained_pieces, line_at, next_piece, pieces_first}
use Rattle.kc_combine.proofs.spectrum_text.put_row.Goals as goal

pub loop-count-init : goal.loop-count-init
unfolding row_text
loop-count-init g c =
    let s = g.W.Sink.seen c.args.writer.now in
    let words = c.args.words.now in
    let text = c.args.block.now ++ row_text c.args.copies words in
    subst (Pending s s text) (ap (λ v. c.args.block.now ++ v) (pieces_first (line_at c.args.copies words) (length words))) (begin s text)

pub returns-in_err-put_line-clause-err : goal.returns-in_err-put_line-clause-err
returns-in_err-put_line-clause-err g c =
    let p = err_from_is_err_and c.from_residual.result c.from_residual.ensures.1 in rw p.1
    (began_front _ _ _ _ _ _ c.loop-count.invariant c.in_err-put_line.ensures.err)

pub loop-count-preserved : goal.loop-count-preserved
loop-count-preserved g c =
    next_piece (line_at c.args.copies c.args.words.now) c.loop-count.block c.loop-count.count (length c.args.words.now)
    c.loop-count-test.true c.loop-count.invariant c.in_ok-put_line.ensures.ok

pub returns-clause-ok : goal.returns-clause-ok
returns-clause-ok g c =
    drained_pieces (line_at c.args.copies c.args.words.now) c.loop-count.block c.loop-count.count (length c.args.words.now)
    (omega arith) c.loop-count.invariant
