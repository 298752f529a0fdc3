-- A table in memory that gives its rows one by one: this project's own.
use Rattle.std.specs.Prelude.{◌≡◌, ℕ, ◌^◌, List, ◌++◌, Option, None}
use Rattle.kc_tally.specs.declared.row.Row.{Row}
use Rattle.kc_tally.specs.Tally.{AreOrderedRows, AreRows, TallySeen}
use Rattle.kc_report.specs.RowByRow.{EndWith}
use Rattle.kc_combine.specs.Whences.{Whence}

-- the table, the rows still to come, and the word of the last row that was given
pub record KeptStand : Type 0 where
  pub table : TallySeen
  pub rest : List Row
  pub last : Option ℕ

-- these rows were given, and the others are still to come
pub record HasGiven (stand : KeptStand) (rows : List Row) : Type 0 where
  pub all : rows ++ stand.rest ≡ stand.table.rows
  pub last : EndWith rows stand.last
  pub ordered : AreOrderedRows (4 ^ stand.table.k) rows
  pub lawful : AreRows stand.table.k stand.table.both stand.table.rows

-- these are all rows of the table, and all were given
pub record HasGivenAll (stand : KeptStand) (rows : List Row) : Type 0 where
  pub all : rows ≡ stand.table.rows
  pub ordered : AreOrderedRows (4 ^ stand.table.k) rows

-- some rows were given, and the others are still to come
abbrev pub IsKept : KeptStand → Type 0
IsKept stand = (rows : List Row) × HasGiven stand rows

-- what stays the same of a table in memory
abbrev pub whence_of_table : TallySeen → Whence
whence_of_table table = record {
  k = table.k;
  both = table.both;
  origin = None;
  start = None;
  limit = 0;
  place = 0;
  rows = table.rows;
}
