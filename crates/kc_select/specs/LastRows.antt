-- The rows of a table from some row on.
-- Source: this project's own.
use Rattle.std.specs.Prelude.{◌≡◌, List, ◌++◌}
use Rattle.kc_tally.specs.declared.row.Row.{Row}

-- these are the last rows, after any number of others
abbrev pub AreLast : List Row → List Row → Type 0
AreLast all rows = (before : List Row) × (before ++ rows ≡ all)
