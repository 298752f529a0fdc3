use Rattle.std.proofs.Common.{◌≡◌, fold, max}
use Rattle.std.specs.Map.{values_of}
use Rattle.kc_table.specs.Slots.{slot_list}
use Rattle.kc_table.proofs.Contents.{counted_in}
use Rattle.kc_table.proofs.slots.Slots.greatest.Given as goal

abbrev pub invariant-loop-index : goal.invariant-loop-index
invariant-loop-index l = l.greatest ≡ fold max 0 (values_of (counted_in l.index (slot_list l.self)))
