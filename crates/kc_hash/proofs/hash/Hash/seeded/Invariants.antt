use Rattle.kc_hash.specs.Seeds.{NoneIsNonsingular}
use Rattle.kc_hash.proofs.hash.Hash.seeded.Given as goal

abbrev pub invariant-loop-turn : goal.invariant-loop-turn
invariant-loop-turn l = NoneIsNonsingular l.bits l.seed l.turn
