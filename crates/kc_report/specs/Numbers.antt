-- The numbers that are counted of a table's rows, without the rows. Source: what `jellyfish histo` and `jellyfish
-- stats` print, Marçais and Kingsford 2011.
use Rattle.std.specs.Prelude.{◌≡◌, ℕ, ◌≤◌, ◌^◌, List, Option, All}
use Rattle.kc_io.specs.Sources.{Seen}
use Rattle.kc_tally.specs.declared.row.Row.{Row}
use Rattle.kc_tally.specs.declared.tally_statistics.Statistics.{Statistics}
use Rattle.kc_tally.specs.Statistics.{statistics_of}
use Rattle.kc_tally.specs.Tally.{TallySeen, total_of}
use Rattle.kc_report.specs.declared.origin.Origin.{Origin}
use Rattle.kc_report.specs.Histo.{words_by_count}
use Rattle.kc_report.specs.TableReading.{GivesTable}

pub record NumbersSeen : Type 0 where
  -- how many words have each count from 1 on, and for how many counts there is room
  pub words : List ℕ
  pub room : ℕ
  pub statistics : Statistics

-- these are the numbers of these rows of a table, up to the count `high`
pub record IsCountOf (high : ℕ) (rows : List Row) (numbers : NumbersSeen) : Type 0 where
  pub words : numbers.words ≡ words_by_count high rows
  pub statistics : numbers.statistics ≡ statistics_of rows
  pub room : numbers.room ≤ high
  pub most : high ≤ 10_000_000
  pub present : All (λ row. 1 ≤ row.count) rows
  pub small : total_of rows ≤ 2 ^ 62

-- they are the numbers of some rows
abbrev pub AreNumbers : NumbersSeen → Type 0
AreNumbers numbers = (high : ℕ) × (rows : List Row) × IsCountOf high rows numbers

-- all bytes of the source were taken, they are a table text, and these are the numbers of its rows
abbrev pub GivesNumbers : Seen → Seen → ℕ → ℕ → NumbersSeen → Type 0
GivesNumbers old new limit high numbers =
    (table : TallySeen × Option Origin) × GivesTable old new limit table × IsCountOf high table.0.rows numbers
