use Rattle.kc_hash.specs.Product.{identity}
use Rattle.kc_hash.proofs.Copies.{CopiesFront}
use Rattle.kc_hash.proofs.matrix.Matrix.identity.Given as goal

abbrev pub invariant-loop-index : goal.invariant-loop-index
invariant-loop-index l = CopiesFront l.bits (identity l.bits) l.columns l.index
