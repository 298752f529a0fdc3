-- The invariant of a matrix of up to 62 columns, over plain lists.
use Rattle.std.specs.Prelude.{◌≡◌, ℕ, ◌<◌, ◌≤◌, ◌^◌, List, length, slice_index}

-- a number of bits that a matrix may have
pub record IsWidth (bits : ℕ) : Type 0 where
  pub positive : 0 < bits
  pub at_most : bits ≤ 62

-- each of the first `bits` columns is a number of `bits` bits
abbrev pub AreBelow : ℕ → List ℕ → Type 0
AreBelow bits columns = (i : ℕ) → i < bits → slice_index columns i < 2 ^ bits

-- the array holds a matrix of `bits` columns: the columns, then zeros
pub record IsMatrix (bits : ℕ) (columns : List ℕ) : Type 0 where
  pub width : IsWidth bits
  pub full : length columns ≡ 62
  pub below : AreBelow bits columns
  pub rest : (i : ℕ) → bits ≤ i → slice_index columns i ≡ 0
