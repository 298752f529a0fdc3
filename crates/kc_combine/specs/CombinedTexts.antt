-- Table texts that are combined, each read from its source.
-- Source: our formats page ("Merging" and the commands over several tables).
use Rattle.std.specs.Prelude.{◌≡◌, ◌⊎◌, ℕ, zero, suc, ◌+◌, ◌^◌, ◌<◌, List, [], ◌∷◌, ◌++◌, length, map, get_or}
use Rattle.std.specs.Prelude.{Result, Ok, Err}
use Rattle.kc_io.specs.Sinks.{Written, HasBegun, HasWritten}
use Rattle.kc_io.specs.Sources.{Seen}
use Rattle.kc_tally.specs.declared.row.Row.{Row}
use Rattle.kc_tally.specs.Tally.{total_of}
use Rattle.kc_report.specs.declared.header.Header.{Header}
use Rattle.kc_report.specs.declared.report_faults.ReportFault.{ReportFault}
use Rattle.kc_report.specs.declared.report_faults.ReportFault.TheVariants as report
use Rattle.kc_report.specs.RowByRow.{HasGivenRows, TableStand, tally_of}
use Rattle.kc_report.specs.RowsWritten.{front_of, text_of}
use Rattle.kc_report.specs.TableReading.{GivesTable, RefusesTable}
use Rattle.kc_combine.specs.Combined.{AreCombinedBelow, IsCombined, IsTooLarge}
use Rattle.kc_combine.specs.CombinedHeaders.{CombinesHeaders}
use Rattle.kc_combine.specs.Combinings.{rule_of}
use Rattle.kc_combine.specs.MergedTables.{TableSeen}
use Rattle.kc_combine.specs.OpenTables.{IsOpened}
use Rattle.kc_combine.specs.declared.ahead.Ahead.{Ahead}
use Rattle.kc_combine.specs.declared.combining.Combining.{Combining}
use Rattle.kc_combine.specs.declared.gives_rows.GivesRows.{Ghosts}
use Rattle.kc_combine.specs.declared.open_table.OpenTable.{OpenTable}
use Rattle.kc_combine.specs.declared.opening.Opening.{Opening}
use Rattle.kc_combine.specs.declared.placed_fault.PlacedFault.{PlacedFault}
use Rattle.kc_combine.specs.declared.written_tables.CombineFault.{CombineFault}
use Rattle.kc_combine.specs.declared.written_tables.CombineFault.TheVariants.{Table, Unlike, TooLarge, Write, Memory}
use Rattle.kc_combine.specs.declared.written_tables.Totals.{Totals}
use Rattle.kc_combine.specs.WrittenTables.{HasTakenFront}

-- ---- opened tables

-- a table text was opened from each source, with these views of the sources before and after
abbrev pub AreOpened : {S : Type 0} → (S → Seen) → ℕ → List S → List S → List Opening → Type 0
AreOpened seen limit [] [] [] = Unit {0}
AreOpened seen limit (old ∷ olds) (new ∷ news) (opening ∷ openings) =
    IsOpened (seen old) (seen new) limit opening × AreOpened seen limit olds news openings
AreOpened seen limit olds news openings = ⊥

-- so many of them were opened, and the other sources are unchanged
abbrev pub AreOpenedTo : {S : Type 0} → (S → Seen) → ℕ → ℕ → List S → List S → List Opening → Type 0
AreOpenedTo seen zero limit olds news openings = (news ≡ olds) × (openings ≡ [])
AreOpenedTo seen (suc i) limit (old ∷ olds) (new ∷ news) (opening ∷ openings) =
    IsOpened (seen old) (seen new) limit opening × AreOpenedTo seen i limit olds news openings
AreOpenedTo seen (suc i) limit olds news openings = ⊥

-- one of the sources gave no table, for this reason, with its place from 1; or memory was refused
abbrev pub FailsOne : {S : Type 0} → (S → Seen) → ℕ → List S → List S → CombineFault PlacedFault → Type 0
FailsOne {S} seen limit olds news (Table fault) = (i : ℕ) × (old : S) × (new : S) × (i < length olds)
    × (get_or olds i old ≡ old) × (get_or news i new ≡ new) × (fault.place ≡ i + 1)
    × RefusesTable (seen old) (seen new) limit fault.fault
FailsOne seen limit olds news Memory = Unit {0}
FailsOne seen limit olds news fault = ⊥

-- the header of an opened table
abbrev pub header_of : Opening → Header
header_of opening =
    record { k = opening.reading.read.k; both = opening.reading.read.both; origin = opening.reading.origin }

-- the combination of tables with these headers has this header
abbrev pub HasHeaderOf : Combining → List Header → Header → Type 0
HasHeaderOf combining headers header = CombinesHeaders combining headers (Ok header)

-- why tables have no combination
abbrev pub header_fault : ReportFault → CombineFault PlacedFault
header_fault report.TooLarge = TooLarge
header_fault fault = Unlike

-- they have no combination, for this reason; or memory was refused
abbrev pub HasNoHeaderOf : Combining → List Header → CombineFault PlacedFault → Type 0
HasNoHeaderOf combining headers Unlike = CombinesHeaders combining headers (Err report.Unlike)
HasNoHeaderOf combining headers TooLarge = CombinesHeaders combining headers (Err report.TooLarge)
HasNoHeaderOf combining headers Memory = Unit {0}
HasNoHeaderOf combining headers fault = ⊥

-- an opened table with its source
pub record IsJoined {S : Type 0} {F : Type 0} {G : Ghosts (OpenTable S) F} (limit at : ℕ) (from : S)
    (opening : Opening) (ahead : Ahead (OpenTable S) F G) : Type 0 where
  pub reading : ahead.reading.reading ≡ opening.reading
  pub source : ahead.reading.source ≡ from
  pub most : ahead.reading.limit ≡ limit
  pub place : ahead.reading.place ≡ at
  pub begun : ahead.reading.begun ≡ opening.begun
  pub head : ahead.head ≡ opening.head

-- each of them with its source, counted from this place
abbrev pub AreJoined : {S : Type 0} {F : Type 0} {G : Ghosts (OpenTable S) F} → ℕ → ℕ → List S → List Opening
    → List (Ahead (OpenTable S) F G) → Type 0
AreJoined limit place [] [] [] = Unit {0}
AreJoined limit place (source ∷ sources) (opening ∷ openings) (ahead ∷ aheads) =
    IsJoined limit place source opening ahead × AreJoined limit (place + 1) sources openings aheads
AreJoined limit place sources openings aheads = ⊥

-- the source of a table
abbrev pub source_of : {S : Type 0} {F : Type 0} {G : Ghosts (OpenTable S) F} → Ahead (OpenTable S) F G → S
source_of ahead = ahead.reading.source

-- ---- combined tables

-- each source gave a table, with these views of the sources before and after
abbrev pub GiveTables : ℕ → List Seen → List Seen → List TableSeen → Type 0
GiveTables limit [] [] [] = Unit {0}
GiveTables limit (old ∷ olds) (new ∷ news) (table ∷ tables) =
    GivesTable old new limit table × GiveTables limit olds news tables
GiveTables limit olds news tables = ⊥

-- the header of a table that was read
abbrev pub header_seen : TableSeen → Header
header_seen table = record { k = table.0.k; both = table.0.both; origin = table.1 }

-- the rows of each table
abbrev pub rows_of_each : List TableSeen → List (List Row)
rows_of_each tables = map (λ table. table.0.rows) tables

-- the table text of the combination of these tables was written: its header and its rows
pub record CombinesTables (combining : Combining) (tables : List TableSeen) (start now : Written)
    (totals : Totals) : Type 0 where
  pub header : Header
  pub headed : HasHeaderOf combining (map header_seen tables) header
  pub rows : List Row
  pub combined : IsCombined header.k (rule_of combining) (rows_of_each tables) rows
  pub written : HasWritten start now (text_of header rows)
  pub distinct : totals.distinct ≡ length rows
  pub total : totals.total ≡ total_of rows

-- the sources gave tables, and the table text of their combination was written
pub record CombinesTexts (combining : Combining) (limit : ℕ) (olds news : List Seen) (start now : Written)
    (totals : Totals) : Type 0 where
  pub tables : List TableSeen
  pub given : GiveTables limit olds news tables
  pub combines : CombinesTables combining tables start now totals

-- ---- why they are not

-- the source gave these rows of a table, after which one more row was read or no row was left
abbrev pub GaveSoFar : Seen → Seen → ℕ → List Row → Type 0
GaveSoFar old new limit rows = ((stand : TableStand) × GivesTable old new limit (tally_of stand rows, stand.origin))
    ⊎ ((stand : TableStand) × (next : Row) × HasGivenRows old new limit (rows ++ next ∷ []) stand)

-- so did each source
abbrev pub TookSoFar : {S : Type 0} → (S → Seen) → ℕ → List S → List S → List (List Row) → Type 0
TookSoFar seen limit [] [] [] = Unit {0}
TookSoFar seen limit (old ∷ olds) (new ∷ news) (rows ∷ tables) =
    GaveSoFar (seen old) (seen new) limit rows × TookSoFar seen limit olds news tables
TookSoFar seen limit olds news tables = ⊥

-- the header of the combination of the tables that were opened
abbrev pub IsHeaderOfOpened : {S : Type 0} → (S → Seen) → Combining → ℕ → List S → Header → Type 0
IsHeaderOfOpened {S} seen combining limit olds header = (news : List S) × (openings : List Opening)
    × AreOpened seen limit olds news openings × HasHeaderOf combining (map header_of openings) header

-- the writer took a beginning of a table text with such a header, up to some row
abbrev pub TookFront : (Header → Type 0) → Written → Written → Type 0
TookFront IsHeader start now =
    (header : Header) × IsHeader header × ((rows : List Row) × HasTakenFront start now header rows)

-- the tables that were opened have no combination, for this reason, and nothing was written
pub record HaveNoCombination {S : Type 0} (seen : S → Seen) (combining : Combining) (limit : ℕ) (olds news : List S)
    (start now : Written) (fault : CombineFault PlacedFault) : Type 0 where
  pub openings : List Opening
  pub opened : AreOpened seen limit olds news openings
  pub none : HasNoHeaderOf combining (map header_of openings) fault
  pub unwritten : now ≡ start

-- The count of the next word of the tables so far is above 2 ^ 62, or with it the sum of the counts. `IsHeader` holds
-- for the header of the combination, and `Took` for the rows that were taken from the tables.
pub record CountsTooMuch (IsHeader : Header → Type 0) (Took : List (List Row) → Type 0) (combining : Combining)
    (start now : Written) : Type 0 where
  pub header : Header
  pub headed : IsHeader header
  pub rows : List Row
  pub front : HasTakenFront start now header rows
  pub tables : List (List Row)
  pub took : Took tables
  pub above : IsTooLarge (rule_of combining) tables rows ⊎ ((bound : ℕ) × (row : Row)
      × AreCombinedBelow bound (rule_of combining) tables (rows ++ row ∷ []) × (2 ^ 62 < total_of rows + row.count))

-- the writer failed, after it took a beginning of the text of the rows of the tables so far, or of all tables
pub record FailsToTake (IsHeader : Header → Type 0) (Took : List (List Row) → Type 0) (combining : Combining)
    (start now : Written) : Type 0 where
  pub header : Header
  pub headed : IsHeader header
  pub rows : List Row
  pub tables : List (List Row)
  pub took : Took tables
  pub failed : ((bound : ℕ) × (row : Row) × AreCombinedBelow bound (rule_of combining) tables (rows ++ row ∷ [])
      × HasBegun start now (front_of header rows))
      ⊎ (IsCombined header.k (rule_of combining) tables rows × HasBegun start now (text_of header rows))

-- Why table texts were not combined: a source gave no table; or the tables have no combination; or a count, or the sum
-- of the counts, is too large; or the writer failed; or memory was refused, and nothing was written.
abbrev pub CombinesNot : {S : Type 0} → (S → Seen) → Combining → ℕ → List S → List S → Written → Written
    → CombineFault PlacedFault → Type 0
CombinesNot seen combining limit olds news start now (Table fault) =
    FailsOne seen limit olds news (Table fault)
    × ((now ≡ start) ⊎ TookFront (IsHeaderOfOpened seen combining limit olds) start now)
CombinesNot seen combining limit olds news start now Unlike =
    HaveNoCombination seen combining limit olds news start now Unlike
CombinesNot seen combining limit olds news start now TooLarge =
    HaveNoCombination seen combining limit olds news start now TooLarge
    ⊎ CountsTooMuch (IsHeaderOfOpened seen combining limit olds) (TookSoFar seen limit olds news) combining start now
CombinesNot seen combining limit olds news start now Write =
    FailsToTake (IsHeaderOfOpened seen combining limit olds) (TookSoFar seen limit olds news) combining start now
CombinesNot seen combining limit olds news start now Memory = now ≡ start
