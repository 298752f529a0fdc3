use Rattle.std.proofs.Common.{◌≡◌}
use Rattle.std.specs.Prelude.{map, Ok}
use Rattle.kc_run.proofs.crew.collect_workers.Given as goal

abbrev pub invariant-loop-ended : goal.invariant-loop-ended
invariant-loop-ended g l = map (λ worker. Ok worker) l.workers.items ≡ l.yielded
