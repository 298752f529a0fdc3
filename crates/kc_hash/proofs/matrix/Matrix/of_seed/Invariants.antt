use Rattle.std.proofs.Common.{◌≡◌}
use Rattle.rand_xoshiro.specs.SplitMix64.{mix_u64}
use Rattle.kc_hash.specs.Seeds.{seed_columns}
use Rattle.kc_hash.proofs.Copies.{CopiesFront}
use Rattle.kc_hash.proofs.Generator.{state_after}
use Rattle.kc_hash.proofs.matrix.Matrix.of_seed.Given as goal

abbrev pub invariant-loop-index : goal.invariant-loop-index
invariant-loop-index l =
    CopiesFront l.bits (seed_columns l.bits l.seed) l.columns l.index × (l.generator ≡ state_after mix_u64 l.index l.seed)
