use Rattle.std.proofs.Common.{◌≡◌, false, take}
use Rattle.kc_word.specs.Runs.{is_in_runs}
use Rattle.kc_word.proofs.runs.is_in_runs.Given as goal

abbrev pub invariant-loop-run : goal.invariant-loop-run
invariant-loop-run l = is_in_runs (take l.run-index l.runs) l.i ≡ false
