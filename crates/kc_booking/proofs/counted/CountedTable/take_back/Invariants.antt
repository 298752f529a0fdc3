use Rattle.kc_booking.specs.Counted.{IsTold, KeepsLimits}
use Rattle.kc_booking.proofs.CountedTables.{AreTakenTo}
use Rattle.kc_booking.proofs.counted.CountedTable.take_back.Given as goal

abbrev pub invariant-loop-key : goal.invariant-loop-key
invariant-loop-key g l = record {
  taken : AreTakenTo (g.C.Counts.counts l.fn.self.table) (g.C.Counts.counts l.self-inside.table) l.keys l.key-index;
  told : IsTold (g.C.Counts.bits l.self-inside.table) (g.C.Counts.counts l.self-inside.table) l.self-inside.at_least l.self-inside.total;
  limits : KeepsLimits g.C.Counts.bits g.C.Counts.may_be_full l.fn.self.table l.self-inside.table;
}
