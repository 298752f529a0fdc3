use Rattle.kc_table.proofs.Resizing.{IsCarried}
use Rattle.kc_table.proofs.slots.Slots.to_size.Given as goal

abbrev pub invariant-loop-old_index : goal.invariant-loop-old_index
invariant-loop-old_index l = IsCarried l.self l.table l.log l.old_index
