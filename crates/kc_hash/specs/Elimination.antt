-- Elimination by rows: how one row operation changes a column.
use Rattle.std.specs.Prelude.{ℕ, ◌*◌, bit_xor}
use Rattle.std.specs.Int.{bit_at}

-- the column after the row is added to each row in `rows`, a set of bits
abbrev pub row_added : ℕ → ℕ → ℕ → ℕ
row_added row rows column = bit_xor column (bit_at column row * rows)
