use Rattle.std.proofs.Common.{◌+◌, drop, get_or, subst}
use Rattle.std.proofs.lemmas.Result.{err_from_is_err_and}
use Rattle.kc_io.proofs.SinksLemmas.{Pending, began_front}
use Rattle.kc_report.specs.Dumping.{dump_text}
use Rattle.kc_report.proofs.PieceLemmas.{all_rows, next_piece}
use Rattle.kc_report.proofs.row_pieces.Made.hand_over.Goals as goal

pub returns-in_err-hand_over_text : goal.returns-in_err-hand_over_text
returns-in_err-hand_over_text g c =
    let seen = g.W.Sink.seen in
    let k = c.args.form.now.k in
    let dump = c.args.form.now.dump.now in
    let pieces = c.args.self.now.pieces.now in
    let piece = get_or pieces c.loop-i.i c.index-self-i.result in
    let rest = dump_text k dump (all_rows (drop (c.loop-i.i + 1) pieces)) in
    let next = next_piece k dump pieces c.loop-i.i c.index-self-i.result c.loop-i-test.true in
    let p = err_from_is_err_and c.from_residual.result c.from_residual.ensures.1 in rw p.1
    (began_front _ _ _ _ (dump_text k dump piece) rest
    (subst (λ v. Pending (seen c.args.writer.now) (seen c.loop-i.writer) (dump_text k dump (all_rows pieces)) v) next c.loop-i.invariant)
    c.in_err-hand_over_text.ensures)
