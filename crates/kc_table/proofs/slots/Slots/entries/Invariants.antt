use Rattle.std.proofs.Common.{◌≡◌, length, vec_capacity}
use Rattle.kc_table.specs.Slots.{slot_list, counted_entries}
use Rattle.kc_table.proofs.Contents.{counted_in}
use Rattle.kc_table.proofs.slots.Slots.entries.Given as goal

abbrev pub invariant-loop-index : goal.invariant-loop-index
invariant-loop-index l = record {
  so_far : l.entries.items ≡ counted_in l.index (slot_list l.self);
  room : vec_capacity l.entries ≡ length (counted_entries l.self);
}
