-- Where the rows of a table come from.
-- Source: this project's own.
use Rattle.std.specs.Prelude.{ℕ, ◌+◌, Bool, List, Option, None, Some}
use Rattle.kc_io.specs.Sources.{Seen}
use Rattle.kc_tally.specs.declared.row.Row.{Row}
use Rattle.kc_report.specs.declared.origin.Origin.{Origin}

-- what stays the same while a table gives its rows: the header; for a table that is read, the view of its source before
-- the header, the limit in bytes, and its place among the tables; for a table in memory, its rows
pub record Whence : Type 0 where
  pub k : ℕ
  pub both : Bool
  pub origin : Option Origin
  pub start : Option Seen
  pub limit : ℕ
  pub place : ℕ
  pub rows : List Row

-- the least word that may come after the row of this word; 0 at the start
abbrev pub low_of : Option ℕ → ℕ
low_of None = 0
low_of (Some word) = word + 1
