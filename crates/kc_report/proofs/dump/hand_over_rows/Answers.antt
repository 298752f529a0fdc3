use Rattle.std.proofs.Common.{◌≡◌, ◌++◌, ◌<◌, ◌^◌, [], ap, subst}
use Rattle.std.proofs.lemmas.List.Elements.{All-rest}
use Rattle.std.proofs.lemmas.Result.{err_from_is_err_and}
use Rattle.kc_io.proofs.SinksLemmas.{Pending, began_front}
use Rattle.kc_report.specs.Dumping.{dump_text}
use Rattle.kc_report.proofs.DumpLemmas.{next_row, handed}
use Rattle.kc_report.proofs.dump.hand_over_rows.Goals as goal

pub returns-in_err-put_row : goal.returns-in_err-put_row
returns-in_err-put_row g c =
    let p = err_from_is_err_and c.from_residual.result c.from_residual.ensures.1 in rw p.1
    (began_front _ _ _ _ _ _ c.loop-row.invariant.pending c.in_err-put_row.ensures.err)

pub loop-row-preserved : goal.loop-row-preserved
loop-row-preserved g c =
    let seen = g.W.Sink.seen in
    let k = c.args.k in
    let dump = c.args.dump.now in
    record {
      can_next = tt;
      is_finite = tt;
      pending = next_row k dump c.in-Some.row c.next.new.self (record {
        start = seen c.args.writer.now;
        now = seen c.loop-row.writer;
        next = seen c.put_row.new.writer;
        text = dump_text k dump c.args.rows;
        block = c.loop-row.block;
        next_block = c.put_row.new.block;
        rows = c.loop-row.row-iterator;
        split = c.in-Some.ensures.steps;
        pending = c.loop-row.invariant.pending;
        moved = c.in_ok-put_row.ensures.ok;
      });
      below = All-rest (λ row. row.word < 4 ^ k) c.in-Some.row c.next.new.self c.loop-row.row-iterator c.in-Some.ensures.steps c.loop-row.invariant.below;
    }

pub returns : goal.returns
returns g c =
    let seen = g.W.Sink.seen in
    let k = c.args.k in
    let dump = c.args.dump.now in
    let text = dump_text k dump c.args.rows in
    let ended : dump_text k dump c.loop-row.row-iterator ≡ [] = ap (dump_text k dump) c.in-None.ensures.steps.0 in
    handed _ _ _ _ c.loop-row.block c.write_all.result
    (subst (λ v. Pending (seen c.args.writer.now) (seen c.loop-row.writer) text (c.loop-row.block ++ v)) ended c.loop-row.invariant.pending)
    (rw c.as_slice.ensures at c.write_all.ensures.handed_over)
