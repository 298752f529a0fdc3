use Rattle.std.proofs.Common.{◌≡◌, get_or}
use Rattle.kc_hash.proofs.Linear.{combine}
use Rattle.kc_hash.proofs.matrix.Matrix.apply.Given as goal

abbrev pub invariant-loop-index : goal.invariant-loop-index
invariant-loop-index l = l.sum ≡ combine (λ i. get_or l.self-inside.columns i 0) l.index l.x
