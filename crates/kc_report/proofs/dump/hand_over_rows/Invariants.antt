use Rattle.std.proofs.Common.{◌++◌, ◌<◌, ◌^◌, All}
use Rattle.kc_report.specs.Dumping.{dump_text}
use Rattle.kc_io.proofs.SinksLemmas.{Pending}
use Rattle.kc_report.proofs.dump.hand_over_rows.Given as goal

abbrev pub invariant-loop-row : goal.invariant-loop-row
invariant-loop-row g l = record {
  can_next : (goal.iterator-loop-row g).can_next l.row-iterator;
  is_finite : (goal.iterator-loop-row g).is_finite l.row-iterator;
  pending : Pending (g.W.Sink.seen l.fn.writer) (g.W.Sink.seen l.writer) (dump_text l.fn.k l.fn.dump l.fn.rows)
      (l.block ++ dump_text l.fn.k l.fn.dump l.row-iterator);
  below : All (λ row. row.word < 4 ^ l.fn.k) l.row-iterator;
}
