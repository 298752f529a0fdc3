use Rattle.std.proofs.Common.{◌≡◌, ◌++◌, string_bytes}
use Rattle.kc_tool.specs.Outputs.{taken_beside}
use Rattle.kc_tool.proofs.outputs.open_beside.Given as goal

abbrev pub invariant-loop-tries : goal.invariant-loop-tries
invariant-loop-tries g l = l.files ≡ l.fn.files ++ taken_beside (string_bytes l.fn.path) l.tries
