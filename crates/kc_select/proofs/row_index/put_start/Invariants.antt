use Rattle.std.proofs.Common.{◌≡◌, ◌-◌, length, vec_capacity}
use Rattle.kc_select.proofs.row_index.put_start.Given as goal

abbrev pub invariant-loop-starts : goal.invariant-loop-starts
invariant-loop-starts l = vec_capacity l.starts ≡ vec_capacity l.fn.starts

abbrev pub decreases-loop-starts : goal.decreases-loop-starts
decreases-loop-starts l = vec_capacity l.starts - length l.starts.items
