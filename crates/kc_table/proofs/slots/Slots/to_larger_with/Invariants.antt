use Rattle.std.proofs.Common.{ℕ, ◌<◌, ◌≤◌}
use Rattle.kc_table.specs.QuotientTable.{MayBeTooSmall}
use Rattle.kc_table.specs.Slot.{counts_of}
use Rattle.kc_table.proofs.slots.Slots.to_larger_with.Given as goal

-- each size before may be too small
abbrev pub invariant-loop-log : goal.invariant-loop-log
invariant-loop-log l =
    (log : ℕ) → l.self.log ≤ log → log < l.log
    → MayBeTooSmall l.self.bits log (counts_of l.self.log l.self.slots.items) l.key
