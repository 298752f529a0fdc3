use Rattle.kc_hash.proofs.RowSteps.{Reduces}
use Rattle.kc_hash.proofs.matrix.Matrix.invert.Given as goal

abbrev pub invariant-loop-index : goal.invariant-loop-index
invariant-loop-index l = Reduces l.self l.reduced l.inverse l.index
