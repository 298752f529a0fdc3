-- The tables of the letters: their entry for each byte.
use Rattle.std.proofs.Common.{◌≡◌, ℕ, ◌<◌, List, map, get_or, sym, ap, ◌∙◌, arith}
use Rattle.std.proofs.lemmas.List.FromFn.{get_or-map-range_with_len}
use Rattle.std.specs.List.{range_with_len}

-- a table of n entries that is f at each index gives f
pub table_at : (f : ℕ → ℕ) (table : List ℕ) (n : ℕ) → map f (range_with_len 0 n) ≡ table → (i : ℕ) → i < n → get_or table i 0 ≡ f i
table_at f table n e i h = ap (λ xs. get_or xs i 0) (sym e) ∙ get_or-map-range_with_len f 0 n i i 0 h (omega arith)
