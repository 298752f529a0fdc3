use Rattle.kc_hash.proofs.RowSteps.{hash_made, identity_inverse}
use Rattle.kc_hash.proofs.hash.Hash.seeded.Goals as goal

pub invariant_of-result : goal.invariant_of-result
invariant_of-result c = hash_made _ _ c.in-Found.ensures.found

pub invariant_of-result-2 : goal.invariant_of-result-2
invariant_of-result-2 c = rw c.identity-identity.ensures (hash_made _ _ (identity_inverse c.args.bits))
