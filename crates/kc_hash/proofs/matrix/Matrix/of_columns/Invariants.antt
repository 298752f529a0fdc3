use Rattle.kc_hash.proofs.Copies.{CopiesFront}
use Rattle.kc_hash.proofs.matrix.Matrix.of_columns.Given as goal

abbrev pub invariant-loop-index : goal.invariant-loop-index
invariant-loop-index l = CopiesFront l.bits l.columns l.kept l.index
