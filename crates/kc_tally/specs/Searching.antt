-- What a search in parts of rows compares.
use Rattle.std.specs.Prelude.{ℕ, ◌-◌, List, map, length, slice_index}
use Rattle.kc_tally.specs.declared.row.Row.{Row}

-- the word of the last row, 0 if there is none
abbrev pub last_word : List Row → ℕ
last_word rows = slice_index (map (λ row. row.word) rows) (length rows - 1)
