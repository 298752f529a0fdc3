use Rattle.kc_hash.proofs.Bytes.{FillsTables}
use Rattle.kc_hash.proofs.matrix.Matrix.tables.Given as goal

abbrev pub invariant-loop-bit : goal.invariant-loop-bit
invariant-loop-bit l = FillsTables l.self l.tables l.bit
