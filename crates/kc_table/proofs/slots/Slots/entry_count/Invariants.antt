use Rattle.std.proofs.Common.{◌≡◌, ◌≤◌, length}
use Rattle.kc_table.specs.Slots.{slot_list}
use Rattle.kc_table.proofs.Contents.{counted_in}
use Rattle.kc_table.proofs.slots.Slots.entry_count.Given as goal

abbrev pub invariant-loop-index : goal.invariant-loop-index
invariant-loop-index l = record {
  so_far : l.counted ≡ length (counted_in l.index (slot_list l.self));
  most : l.counted ≤ l.index;
}
