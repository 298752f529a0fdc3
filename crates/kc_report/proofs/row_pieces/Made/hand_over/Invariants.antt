use Rattle.std.proofs.Common.{drop}
use Rattle.kc_io.proofs.SinksLemmas.{Pending}
use Rattle.kc_report.specs.Dumping.{dump_text}
use Rattle.kc_report.proofs.PieceLemmas.{all_rows}
use Rattle.kc_report.proofs.row_pieces.Made.hand_over.Given as goal

abbrev pub invariant-loop-i : goal.invariant-loop-i
invariant-loop-i g l = Pending (g.W.Sink.seen l.fn.writer) (g.W.Sink.seen l.writer)
    (dump_text l.form.k l.form.dump.now (all_rows l.self.pieces.now))
    (dump_text l.form.k l.form.dump.now (all_rows (drop l.i l.self.pieces.now)))
