-- A hash has an invertible matrix and its inverse. Its model is the matrix alone, since the matrix determines the
-- inverse.
use Rattle.std.specs.Prelude.{◌≡◌, ℕ, ◌^◌, ◌<◌, ◌==◌, List, length, map, unwrap_or, slice_index}
use Rattle.std.specs.List.{find, range_with_len}
use Rattle.kc_hash.specs.Product.{product, AreInverse}

-- the least number that the matrix maps to y; 0 if there is none
unfoldable pub preimage : List ℕ → ℕ → ℕ
preimage columns y = unwrap_or (find (λ x. product columns x == y) (range_with_len 0 (2 ^ length columns))) 0

-- the inverse: column i is the number that the matrix maps to bit i alone
unfoldable pub inverse_of : List ℕ → List ℕ
inverse_of columns = map (λ i. preimage columns (2 ^ i)) (range_with_len 0 (length columns))

-- the invariant of a hash's two matrices
pub record IsHash (matrix inverse : List ℕ) : Type 0 where
  pub are_inverse : AreInverse matrix inverse
  pub columns_below : (i : ℕ) → i < length matrix → slice_index inverse i < 2 ^ length matrix
  pub columns_undone : (i : ℕ) → i < length matrix → product matrix (slice_index inverse i) ≡ 2 ^ i
