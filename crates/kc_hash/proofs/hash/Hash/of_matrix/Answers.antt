use Rattle.kc_hash.proofs.RowSteps.{hash_made}
use Rattle.kc_hash.proofs.hash.Hash.of_matrix.Goals as goal

pub invariant_of-result : goal.invariant_of-result
invariant_of-result c = hash_made c.args.matrix c.in-Found.inverse c.in-Found.ensures.found
