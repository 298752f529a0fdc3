-- The rules give 0 for a word that no table has.
-- Source: this project's own.
use Rattle.std.specs.Prelude.{◌≡◌, ℕ, nat_le, ◌&&◌, Bool, true, false, if◌then◌else◌, List, [], ◌∷◌, refl}
use Rattle.std.proofs.Common.{arith}
use Rattle.kc_combine.specs.Combined.{MakesNothingOfNone, difference, difference_of_counts, intersection}
use Rattle.kc_combine.specs.Combined.{no_counts_in, none_has, sum_of, within}

pub sum_of_none : MakesNothingOfNone sum_of
sum_of_none [] = refl
sum_of_none (rows ∷ tables) = sum_of_none tables

pub none_in_common : (take : List ℕ → ℕ) → MakesNothingOfNone (intersection take)
none_in_common take [] = refl
none_in_common take (rows ∷ tables) = refl

pub none_left : MakesNothingOfNone difference
none_left [] = refl
none_left (rows ∷ tables) = same (none_has (no_counts_in tables)) where
  same : (b : Bool) → ◌≡◌ {A = ℕ} (if b then 0 else 0) 0
  same true = refl
  same false = refl

pub none_remains : MakesNothingOfNone difference_of_counts
none_remains [] = refl
none_remains (rows ∷ tables) = omega arith

pub none_within : (least most : ℕ) → MakesNothingOfNone (within least most)
none_within least most [] = refl
none_within least most (rows ∷ tables) = same (nat_le least 0 && nat_le 0 most) where
  same : (b : Bool) → ◌≡◌ {A = ℕ} (if b then 0 else 0) 0
  same true = refl
  same false = refl
