use Rattle.std.proofs.Common.{◌≤◌, ◌-◌, length}
use Rattle.kc_word.proofs.list_starts.lower_bound.Given as goal

abbrev pub invariant-loop-from : goal.invariant-loop-from
invariant-loop-from l = l.end ≤ length l.words

abbrev pub decreases-loop-from : goal.decreases-loop-from
decreases-loop-from l = l.end - l.from
