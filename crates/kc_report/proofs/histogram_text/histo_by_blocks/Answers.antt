use Rattle.std.proofs.Common.{◌≡◌, ◌+◌, ◌++◌, [], length, ap, sym, ◌∙◌, append-nil, arith, drop}
use Rattle.std.proofs.lemmas.Result.{err_from_is_err_and}
use Rattle.kc_io.proofs.SinksLemmas.{SinkCall, begin, began_front, drained, last}
use Rattle.kc_report.specs.Histo.{lines_from, count_line}
use Rattle.kc_report.proofs.HistoLemmas.{next_line, lines-last}
use Rattle.kc_report.proofs.histogram_text.histo_by_blocks.Goals as goal

pub loop-i-init : goal.loop-i-init
loop-i-init g c =
    let s = g.W.Sink.seen c.args.writer.now in
    let text = lines_from 1 c.args.words.now c.args.above in
    rw c.new-block.ensures (begin s text)

pub returns-in_err-put_line : goal.returns-in_err-put_line
returns-in_err-put_line g c =
    let p = err_from_is_err_and c.from_residual.result c.from_residual.ensures.1 in rw p.1
    (began_front _ _ _ _ _ _ c.loop-i.invariant c.in_err-put_line.ensures.err)

pub loop-i-preserved : goal.loop-i-preserved
loop-i-preserved g c =
    next_line c.loop-i.block c.args.words.now c.args.above c.loop-i.i 0 c.loop-i-test.true c.loop-i.invariant c.in_ok-put_line.ensures.ok

pub returns-in_err-put_line-2 : goal.returns-in_err-put_line-2
returns-in_err-put_line-2 g c =
    let p = err_from_is_err_and c.from_residual-in_err-put_line-2.result c.from_residual-in_err-put_line-2.ensures.1 in rw p.1
    (began_front _ _ _ _ _ _ c.loop-i.invariant c.in_err-put_line-2.ensures.err)

pub returns : goal.returns
returns g c =
    let seen = g.W.Sink.seen in
    let words = c.args.words.now in
    let line = count_line (length words + 1) c.args.above in
    let rest = lines_from (c.loop-i.i + 1) (drop c.loop-i.i words) c.args.above in
    let ended : rest ≡ line = lines-last words c.args.above c.loop-i.i (omega arith) in
    let call : SinkCall = record {
      start = seen c.args.writer.now;
      now = seen c.loop-i.writer;
      next = seen c.put_line-2.new.writer;
      text = lines_from 1 words c.args.above;
      rest = c.loop-i.block ++ rest;
      pending = c.loop-i.invariant;
    } in
    let whole : call.rest ≡ (c.loop-i.block ++ line) ++ [] = ap (λ v. c.loop-i.block ++ v) ended ∙ sym (append-nil (c.loop-i.block ++ line)) in
    last _ _ _ _ c.put_line-2.new.block c.write_out.result
    (drained call (c.loop-i.block ++ line) c.put_line-2.new.block [] whole c.in_ok-put_line-2.ensures.ok)
    (rw c.as_slice.ensures at c.write_out.ensures)
