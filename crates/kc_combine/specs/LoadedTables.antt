-- Tables in memory that are combined, and the table text of the result.
-- Source: our formats page ("Merging" and the commands over several tables).
use Rattle.std.specs.Prelude.{◌≡◌, ◌⊎◌, List, [], ◌∷◌, ◌++◌, length, map, Ok, ⊤}
use Rattle.kc_io.specs.Sinks.{Written, HasBegun, HasWritten}
use Rattle.kc_tally.specs.declared.row.Row.{Row}
use Rattle.kc_report.specs.declared.header.Header.{Header}
use Rattle.kc_report.specs.RowsWritten.{text_of}
use Rattle.kc_report.specs.Table.{table_text}
use Rattle.kc_combine.specs.Aheads.{HasTaken}
use Rattle.kc_combine.specs.Combined.{IsCombined}
use Rattle.kc_combine.specs.CombinedTexts.{CombinesTables, CountsTooMuch, HasHeaderOf, HasNoHeaderOf, header_seen}
use Rattle.kc_combine.specs.CombinedTexts.{rows_of_each}
use Rattle.kc_combine.specs.Combinings.{rule_of}
use Rattle.kc_combine.specs.JudgedTexts.{FitsInto, IsHeaderButTooLarge, total_of_all}
use Rattle.kc_combine.specs.KeptTables.{HasGiven, HasGivenAll, KeptStand, whence_of_table}
use Rattle.kc_combine.specs.MergedTables.{MergesAll, TableSeen}
use Rattle.kc_combine.specs.declared.ahead.Ahead.{Ahead}
use Rattle.kc_combine.specs.declared.combining.Combining.{Combining}
use Rattle.kc_combine.specs.declared.combining.Combining.TheVariants.{Merge}
use Rattle.kc_combine.specs.declared.gives_rows.GivesRows.{Ghosts}
use Rattle.kc_combine.specs.declared.loaded_tables.LoadedTable.{LoadedTable}
use Rattle.kc_combine.specs.declared.placed_fault.PlacedFault.{PlacedFault}
use Rattle.kc_combine.specs.declared.written_tables.CombineFault.{CombineFault}
use Rattle.kc_combine.specs.declared.written_tables.CombineFault.TheVariants.{Table, Unlike, TooLarge, Write, Memory}
use Rattle.kc_combine.specs.declared.written_tables.Totals.{Totals}

-- a table in memory, as one that was read
abbrev pub table_seen : LoadedTable → TableSeen
table_seen table = (table.tally, table.origin)

-- the tables before their first rows, each with its first row already read
abbrev pub AreBegun : {F : Type 0} {G : Ghosts KeptStand F} → List TableSeen → List (Ahead KeptStand F G) → Type 0
AreBegun [] [] = Unit {0}
AreBegun (table ∷ tables) (ahead ∷ aheads) = (whence_of_table ahead.reading.table ≡ whence_of_table table.0)
    × HasTaken HasGiven HasGivenAll ahead.reading ahead.head [] × AreBegun tables aheads
AreBegun tables aheads = ⊥

-- the rows are the first ones of each table
abbrev pub AreFronts : List TableSeen → List (List Row) → Type 0
AreFronts [] [] = Unit {0}
AreFronts (table ∷ tables) (rows ∷ fronts) =
    ((rest : List Row) × (rows ++ rest ≡ table.0.rows)) × AreFronts tables fronts
AreFronts tables fronts = ⊥

-- why tables have no combination: they don't match; or the sums of merged tables are too large; or memory was refused
abbrev pub HaveNoHeader : Combining → List TableSeen → CombineFault PlacedFault → Type 0
HaveNoHeader combining tables Unlike = HasNoHeaderOf combining (map header_seen tables) Unlike
HaveNoHeader combining tables TooLarge =
    HasNoHeaderOf combining (map header_seen tables) TooLarge ⊎ IsHeaderButTooLarge combining tables
HaveNoHeader combining tables Memory = ⊤
HaveNoHeader combining tables fault = ⊥

-- a combination whose counts may turn out too large while it is written; those of merged tables are added before
abbrev pub IsNoMerge : Combining → Type 0
IsNoMerge Merge = ⊥
IsNoMerge combining = ⊤

-- the writer failed, after it took a beginning of the table text of the combination of these tables
pub record FailsToTakeText (combining : Combining) (tables : List TableSeen) (start now : Written) : Type 0 where
  pub header : Header
  pub headed : HasHeaderOf combining (map header_seen tables) header
  pub fits : FitsInto combining (total_of_all tables)
  pub rows : List Row
  pub combined : IsCombined header.k (rule_of combining) (rows_of_each tables) rows
  pub begun : HasBegun start now (text_of header rows)

-- Why the table text of a combination was not written whole: the tables have no combination, and nothing was written;
-- or a count, or the sum of the counts, is too large; or the writer failed; or memory was refused, and nothing was
-- written.
abbrev pub CombinesNoTables : Combining → List TableSeen → Written → Written → CombineFault PlacedFault → Type 0
CombinesNoTables combining tables start now Unlike = (now ≡ start) × HaveNoHeader combining tables Unlike
CombinesNoTables combining tables start now TooLarge = ((now ≡ start) × HaveNoHeader combining tables TooLarge)
    ⊎ (IsNoMerge combining
    × CountsTooMuch (HasHeaderOf combining (map header_seen tables)) (AreFronts tables) combining start now)
CombinesNoTables combining tables start now Write = FailsToTakeText combining tables start now
CombinesNoTables combining tables start now Memory = now ≡ start
CombinesNoTables combining tables start now (Table fault) = ⊥

-- the table text of merged tables is that of their merged table
abbrev pub WritesMerged : Type 0
WritesMerged = (tables : List TableSeen) (start now : Written) (totals : Totals)
    → CombinesTables Merge tables start now totals → FitsInto Merge (total_of_all tables)
    → (merged : TableSeen) × MergesAll tables (Ok merged) × HasWritten start now (table_text merged.0 merged.1)

-- if the writer fails, it took a beginning of that
abbrev pub WritesMergedPart : Type 0
WritesMergedPart = (tables : List TableSeen) (start now : Written) → FailsToTakeText Merge tables start now
    → (merged : TableSeen) × MergesAll tables (Ok merged) × HasBegun start now (table_text merged.0 merged.1)
