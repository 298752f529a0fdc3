use Rattle.std.proofs.Common.{◌≤◌, ◌/◌, length, vec_capacity}
use Rattle.kc_select.proofs.row_index.starts_of.Given as goal

abbrev pub invariant-fronts : goal.invariant-fronts
invariant-fronts l = vec_capacity l.starts ≤ length l.fn.tally.rows / 8

abbrev pub decreases-fronts : goal.decreases-fronts
decreases-fronts l = length l.rest
