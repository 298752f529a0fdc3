-- The model of the trait `Counts`.
use Rattle.std.specs.Prelude.{◌≡◌, ℕ, ◌+◌, ◌-◌, ◌<◌, ◌≤◌, ◌^◌, if◌then◌else◌, IsTrue, nat_eq}
use Rattle.std.specs.Prelude.{List, All, Contains, Some, map, unwrap_or}
use Rattle.std.specs.List.{IsDistinct}
use Rattle.std.specs.Ordering.{nat_cmp}
use Rattle.std.specs.FinMap.{FinMap, get, contains_key, insert}

-- A table is a finite map (Marçais and Kingsford 2011: a k-mer's hash is the key, and the key has a count). A key in
-- the map is called stored. Its count may be 0.
abbrev pub KeyCounts : Type 0
KeyCounts = FinMap nat_cmp ℕ

abbrev pub IsStored : KeyCounts → ℕ → Type 0
IsStored counts key = IsTrue (contains_key counts key)

-- the key's count, 0 if the key is not stored
abbrev pub count_at : KeyCounts → ℕ → ℕ
count_at counts key = unwrap_or (get counts key) 0

-- the map with the key stored: with the count 0 unless it was stored before
abbrev pub readied : KeyCounts → ℕ → KeyCounts
readied counts key = if contains_key counts key then counts else insert counts key 0

-- the map with the key's count increased by one
abbrev pub added : KeyCounts → ℕ → KeyCounts
added counts key = insert counts key (count_at counts key + 1)

-- the map with the key's count decreased by one
abbrev pub reduced : KeyCounts → ℕ → KeyCounts
reduced counts key = insert counts key (count_at counts key - 1)

-- The rows are the keys whose count is at least 1, each once, with its count.
pub record AreRowsOf (counts : KeyCounts) (rows : List (ℕ × ℕ)) : Type 0 where
  pub once : IsDistinct nat_eq (map (λ row. row.0) rows)
  pub told : All (λ row. (get counts row.0 ≡ Some row.1) × (1 ≤ row.1)) rows
  pub complete : (key : ℕ) → 1 ≤ count_at counts key → Contains rows (key, count_at counts key)

-- each stored key is a number of so many bits
abbrev pub IsWithin : ℕ → KeyCounts → Type 0
IsWithin bits counts = (key : ℕ) → IsStored counts key → key < 2 ^ bits

-- the number is the greatest count of a key; the count of a key that is not stored is 0
pub record IsGreatestCount (counts : KeyCounts) (greatest : ℕ) : Type 0 where
  pub most : (key : ℕ) → count_at counts key ≤ greatest
  pub reached : (key : ℕ) × (count_at counts key ≡ greatest)
