use Rattle.std.proofs.Common.{◌<◌, ◌≤◌, ◌^◌, ◌++◌, All, length}
use Rattle.kc_io.proofs.SinksLemmas.{Pending}
use Rattle.kc_tally.specs.declared.row.Row.{Row}
use Rattle.kc_report.specs.Dumping.{dump_text}
use Rattle.kc_report.specs.Pieces.{AreTextsOf}
use Rattle.kc_report.proofs.PieceLemmas.{all_rows}
use Rattle.kc_report.proofs.row_pieces.hand_over_pieces.Given as goal

abbrev pub invariant-loop-spare : goal.invariant-loop-spare
invariant-loop-spare g l = record {
  fits : length l.ready ≤ length l.made;
  room : 1 ≤ length l.rest → (1 ≤ length l.made) × (1 ≤ length l.spare);
  made : AreTextsOf l.form.k l.form.dump.now l.ready l.made;
  ready : All (All (λ (row : Row). row.word < 4 ^ l.form.k)) l.ready;
  rest : All (All (λ (row : Row). row.word < 4 ^ l.form.k)) l.rest;
  pending : Pending (g.W.Sink.seen l.fn.writer) (g.W.Sink.seen l.writer) (dump_text l.form.k l.form.dump.now (all_rows l.fn.work.pieces.items))
      (dump_text l.form.k l.form.dump.now (all_rows (l.ready ++ l.rest)));
}

abbrev pub decreases-loop-spare : goal.decreases-loop-spare
decreases-loop-spare g l = length l.rest
