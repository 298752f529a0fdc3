-- Pieces stored one after another: all their bytes, and the index at which each of them ends.
-- Source: this project's own.
use Rattle.std.specs.Prelude.{◌≡◌, ℕ, ◌<◌, ◌≤◌, List, ◌∷◌, length, map, slice_index, slice_range}
use Rattle.std.specs.List.{range_with_len}

-- where piece i begins: the first at index 0, each other one at the end of the one before it
abbrev pub start_of : List ℕ → ℕ → ℕ
start_of ends i = slice_index (0 ∷ ends) i

-- piece i: the bytes from its begin to before its end
abbrev pub piece_at : List ℕ → List ℕ → ℕ → List ℕ
piece_at bytes ends i = slice_range bytes (start_of ends i) (slice_index ends i)

-- the pieces, in order
unfoldable pub pieces_in : List ℕ → List ℕ → List (List ℕ)
pieces_in bytes ends = map (λ i. piece_at bytes ends i) (range_with_len 0 (length ends))

-- no piece ends before it begins, and the last one ends where the bytes do
pub record AreEnds (ends : List ℕ) (n : ℕ) : Type 0 where
  pub rising : (i : ℕ) → i < length ends → start_of ends i ≤ slice_index ends i
  pub last : start_of ends (length ends) ≡ n
