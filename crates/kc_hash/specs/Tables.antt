-- A matrix as eight tables, one for each byte of a number.
use Rattle.std.specs.Prelude.{◌≡◌, ℕ, ◌<◌, ◌*◌, ◌^◌, List, [], slice_index, slice_index_or}
use Rattle.kc_hash.specs.Product.{product}

-- the entry of each byte is the product with the number that has this byte at the position and 0 elsewhere
abbrev pub IsByteTable : List ℕ → ℕ → List ℕ → Type 0
IsByteTable columns position table =
    (byte : ℕ) → byte < 256 → slice_index table byte ≡ product columns (byte * 2 ^ (8 * position))

-- the eight tables, from the lowest byte to the highest
abbrev pub AreTables : List ℕ → List (List ℕ) → Type 0
AreTables columns tables =
    (position : ℕ) → position < 8 → IsByteTable columns position (slice_index_or tables position [])
