-- The matrix of a seed. The kit's `rand_xoshiro` defines the numbers that SplitMix64 draws; which of them are used, and
-- that 64 seeds are tried, is this project's own.
use Rattle.std.specs.Prelude.{◌≡◌, refl, ℕ, ◌+◌, ◌-◌, ◌%◌, ◌^◌, ◌<◌, List, [], ◌∷◌, map}
use Rattle.rand_core.specs.Steps.{first_words}
use Rattle.rand_xoshiro.specs.SplitMix64.{mix_u64}
use Rattle.kc_hash.specs.Product.{IsNonsingular}

-- the columns of a seed: the first n numbers that SplitMix64 draws from this seed, of which the low n bits are kept
unfoldable pub seed_columns : ℕ → ℕ → List ℕ
seed_columns bits seed = map (λ drawn. drawn % 2 ^ bits) (first_words mix_u64 bits seed)

-- the low bits of the numbers that another implementation of SplitMix64 draws
seed_row : seed_columns 4 1 ≡ 1 ∷ 7 ∷ 14 ∷ 11 ∷ []
unfolding seed_columns first_words
seed_row = refl

-- the columns of the seed `turn` after the given one; seeds wrap at 2 ^ 64
abbrev pub turn_columns : ℕ → ℕ → ℕ → List ℕ
turn_columns bits seed turn = seed_columns bits ((seed + turn) % 2 ^ 64)

turn_row : turn_columns 3 (2 ^ 64 - 1) 2 ≡ 1 ∷ 7 ∷ 6 ∷ []
unfolding seed_columns first_words
turn_row = refl

-- none of `turns` seeds, from the given one on, has an invertible matrix
abbrev pub NoneIsNonsingular : ℕ → ℕ → ℕ → Type 0
NoneIsNonsingular bits seed turns = (turn : ℕ) → turn < turns → ¬ IsNonsingular (turn_columns bits seed turn)
