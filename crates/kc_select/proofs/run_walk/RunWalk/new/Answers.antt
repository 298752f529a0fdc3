use Rattle.std.proofs.Common.{refl}
use Rattle.kc_select.specs.RunWalks.{runs_with}
use Rattle.kc_select.proofs.run_walk.RunWalk.new.Goals as goal

pub returns-clause-runs : goal.returns-clause-runs
unfolding runs_with
returns-clause-runs c counts = refl
