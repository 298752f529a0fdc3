-- How rows are packed into words of 64 bits.
-- Source: this project's own.
use Rattle.std.specs.Prelude.{◌≡◌, refl, ℕ, ◌+◌, ◌-◌, ◌*◌, ◌/◌, ◌%◌, ◌^◌, ◌≤◌, ◌==◌, Bool, nat_le, List, [], ◌∷◌}
use Rattle.std.specs.Prelude.{◌<◌, map, max, drop, filter, reverse, All, Any, slice_index, if◌then◌else◌}
use Rattle.std.specs.List.{flat_map}
use Rattle.kc_tally.specs.declared.row.Row.{Row}
use Rattle.kc_tally.specs.Tally.{row_of}

-- What the packed rows of a part have in common: the least word, and the number of low bits for a count.
pub record LayoutSeen : Type 0 where
  pub least : ℕ
  pub low : ℕ

-- whether a row's count does not fit the low bits
abbrev pub is_large : LayoutSeen → Row → Bool
is_large layout row = nat_le (2 ^ layout.low) row.count

-- A row in 64 bits: its word minus the least one, and below that its count, or 0 if the count is large.
abbrev pub packed_row : LayoutSeen → Row → ℕ
packed_row layout row = (row.word - layout.least) * 2 ^ layout.low + (if is_large layout row then 0 else row.count)

-- The rows with large counts, which are in a list of their own as well, in their order.
abbrev pub large_rows : LayoutSeen → List Row → List Row
large_rows layout rows = filter (λ row. is_large layout row) rows

-- the word of a packed row
abbrev pub word_in : LayoutSeen → ℕ → ℕ
word_in layout packed = layout.least + packed / 2 ^ layout.low

-- whether a packed row's count is in the list of large ones
abbrev pub is_apart : LayoutSeen → ℕ → Bool
is_apart layout packed = packed % 2 ^ layout.low == 0

-- the count of the first of the large rows, 0 if there is none
abbrev pub first_count : List Row → ℕ
first_count large = slice_index (map (λ row. row.count) large) 0

-- a packed row as a row; `large` are the large rows from it on
abbrev pub unpacked : LayoutSeen → ℕ → List Row → Row
unpacked layout packed large =
    row_of (word_in layout packed) (if is_apart layout packed then first_count large else packed % 2 ^ layout.low)

-- the rows of packed ones, and of the large ones among them
abbrev pub rows_of : LayoutSeen → List ℕ → List Row → List Row
rows_of layout [] large = []
rows_of layout (packed ∷ more) large =
    unpacked layout packed large ∷ rows_of layout more (if is_apart layout packed then drop 1 large else large)

-- With two low bits for counts and words from 5 on: the counts 1 and 3 fit, 4 and 70,000 don't.
packed_rows : (rows : List Row) → Type 0
packed_rows rows =
    (map (packed_row (record { least = 5; low = 2 })) rows ≡ 1 ∷ 7 ∷ 8 ∷ 400 ∷ [])
    × (large_rows (record { least = 5; low = 2 }) rows ≡ row_of 7 4 ∷ row_of 105 70_000 ∷ [])
    × (rows_of (record { least = 5; low = 2 }) (1 ∷ 7 ∷ 8 ∷ 400 ∷ []) (row_of 7 4 ∷ row_of 105 70_000 ∷ []) ≡ rows)

worked_rows : packed_rows (row_of 5 1 ∷ row_of 6 3 ∷ row_of 7 4 ∷ row_of 105 70_000 ∷ [])
unfolding packed_rows
worked_rows = (refl, refl, refl)

-- These are the packed rows and the large rows of the rows that they represent, each of which has a count.
pub record ArePacked (layout : LayoutSeen) (packed : List ℕ) (large : List Row) : Type 0 where
  pub words : packed ≡ map (packed_row layout) (rows_of layout packed large)
  pub apart : large ≡ large_rows layout (rows_of layout packed large)
  pub present : All (λ row. 1 ≤ row.count) (rows_of layout packed large)

-- No bit is wasted: some row has the least word, and some row's word needs the highest of the bits above the count's.
pub record IsTight (rows : List Row) (layout : LayoutSeen) : Type 0 where
  pub least : Any (λ row. row.word ≡ layout.least) rows
  pub highest : Any (λ row. 2 ^ (63 - layout.low) ≤ max (row.word - layout.least) 1) rows

-- the rows of parts that are listed from the last to the first
abbrev pub rows_from_last : List (List Row) → List Row
rows_from_last parts = flat_map (λ part. part) (reverse parts)

-- rows that grow: the packed parts of the first ones, and the rows after them, which are none only if nothing is packed
pub record AreGrowing (packed : List (List Row)) (rows : List Row) : Type 0 where
  pub words : All (λ row. row.word < 2 ^ 62) rows
  pub present : All (λ row. 1 ≤ row.count) rows
  pub behind : rows ≡ [] → packed ≡ []

-- Rows in any order, with words from `least` on that differ from it in `width` bits, and room for `room` rows.
pub record LooseSeen : Type 0 where
  pub least : ℕ
  pub width : ℕ
  pub room : ℕ
  pub rows : List Row

-- loose rows have this range of words
pub record IsInRange (least width : ℕ) (loose : LooseSeen) : Type 0 where
  pub least_is : loose.least ≡ least
  pub width_is : loose.width ≡ width

-- several lists of loose rows that have one range of words
pub record ListsSeen : Type 0 where
  pub least : ℕ
  pub width : ℕ
  pub rows : List Row
