use Rattle.std.proofs.Common.{◌≡◌, ◌-◌, length}
use Rattle.kc_select.specs.CountWalks.{runs_left}
use Rattle.kc_select.proofs.count_walk.CountWalk.next_run.Given as goal

abbrev pub invariant-loop-self : goal.invariant-loop-self
invariant-loop-self l = runs_left l.self ≡ runs_left l.fn.self

abbrev pub decreases-loop-self : goal.decreases-loop-self
decreases-loop-self l = length l.self.read.bases - l.self.taken
