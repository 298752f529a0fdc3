-- A table text with its source, read row by row: this project's own.
use Rattle.std.specs.Prelude.{◌≡◌, ℕ, ◌+◌, ◌^◌, List, [], ◌∷◌, Option, None, Some}
use Rattle.kc_io.specs.Sources.{Seen}
use Rattle.kc_tally.specs.declared.row.Row.{Row}
use Rattle.kc_tally.specs.Tally.{AreOrderedRows}
use Rattle.kc_report.specs.RowByRow.{HasGivenRows, RefusesRow, TableStand, tally_of}
use Rattle.kc_report.specs.TableReading.{GivesTable}
use Rattle.kc_combine.specs.Whences.{Whence}
use Rattle.kc_combine.specs.declared.open_table.OpenTable.{OpenTable}
use Rattle.kc_combine.specs.declared.opening.Opening.{Opening}
use Rattle.kc_combine.specs.declared.placed_fault.PlacedFault.{PlacedFault}

-- the rows given so far are in order
pub ordered_rows : {start now : Seen} {limit : ℕ} {rows : List Row} {stand : TableStand}
    → HasGivenRows start now limit rows stand → AreOrderedRows (4 ^ stand.read.k) rows
ordered_rows given = given.lawful.rows.ordered

-- so are those of a whole table
pub whole_rows : {start now : Seen} {limit : ℕ} {rows : List Row} (stand : TableStand)
    → GivesTable start now limit (tally_of stand rows, stand.origin) → AreOrderedRows (4 ^ stand.read.k) rows
whole_rows stand all = all.has_table.lawful.rows.ordered

-- what stays the same of a table that is read
abbrev pub whence_of_source : TableStand → Seen → ℕ → ℕ → Whence
whence_of_source stand start limit place = record {
  k = stand.read.k;
  both = stand.read.both;
  origin = stand.origin;
  start = Some start;
  limit = limit;
  place = place;
  rows = [];
}

-- the same of a table with its source
abbrev pub whence_of : {S : Type 0} → OpenTable S → Whence
whence_of t = whence_of_source t.reading t.begun.start t.limit t.place

-- the table gave these rows so far
abbrev pub Gave : {S : Type 0} → (S → Seen) → OpenTable S → List Row → Type 0
Gave seen t rows = HasGivenRows t.begun.start (seen t.source) t.limit rows t.reading

-- they are all of its rows
abbrev pub GaveAll : {S : Type 0} → (S → Seen) → OpenTable S → List Row → Type 0
GaveAll seen t rows = GivesTable t.begun.start (seen t.source) t.limit (tally_of t.reading rows, t.reading.origin)

-- this fault came after these rows
abbrev pub Fails : {S : Type 0} → (S → Seen) → OpenTable S → List Row → PlacedFault → Type 0
Fails seen t rows fault = (fault.place ≡ t.place)
    × RefusesRow t.begun.start (seen t.source) t.limit (tally_of t.reading rows) fault.fault

-- the source gave the header and then this row, or the end; `start` is its view before that
abbrev pub GaveFirst : Seen → Seen → ℕ → TableStand → Option Row → Type 0
GaveFirst start now limit stand None = GivesTable start now limit (tally_of stand [], stand.origin)
GaveFirst start now limit stand (Some row) = HasGivenRows start now limit (row ∷ []) stand

-- the header and the first row of a table text were read
pub record IsOpened (before now : Seen) (limit : ℕ) (opening : Opening) : Type 0 where
  pub start : opening.begun.start ≡ before
  pub first : GaveFirst before now limit opening.reading opening.head
