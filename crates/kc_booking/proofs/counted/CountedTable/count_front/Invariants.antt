use Rattle.std.proofs.Common.{◌≡◌, ◌+◌, take}
use Rattle.kc_booking.specs.Counted.{IsTold, KeepsLimits, all_added}
use Rattle.kc_booking.proofs.counted.CountedTable.count_front.Given as goal

abbrev pub invariant-loop-i : goal.invariant-loop-i
invariant-loop-i g l = record {
  counts : g.C.Counts.counts l.self-inside.table ≡ all_added (g.C.Counts.counts l.fn.self.table) (take l.i l.keys);
  told : IsTold (g.C.Counts.bits l.self-inside.table) (g.C.Counts.counts l.self-inside.table) l.self-inside.at_least l.self-inside.total;
  total : l.self-inside.total ≡ l.fn.self.total + l.i;
  limits : KeepsLimits g.C.Counts.bits g.C.Counts.may_be_full l.fn.self.table l.self-inside.table;
}
