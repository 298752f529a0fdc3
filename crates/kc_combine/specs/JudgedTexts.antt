-- Table texts that are read to their ends before they are combined.
-- Source: our formats page ("Merging" and the commands over several tables).
use Rattle.std.specs.Prelude.{◌≡◌, ◌⊎◌, ℕ, zero, suc, ◌+◌, ◌^◌, ◌<◌, ◌≤◌, List, [], ◌∷◌, length, get_or, map}
use Rattle.std.specs.Prelude.{slice_set, sum_by, ⊤}
use Rattle.kc_io.specs.Sources.{Seen}
use Rattle.kc_tally.specs.Tally.{total_of}
use Rattle.kc_report.specs.declared.header.Header.{Header}
use Rattle.kc_report.specs.TableReading.{GivesTable, RefusesTable}
use Rattle.kc_combine.specs.CombinedTexts.{GiveTables, HasHeaderOf, HasNoHeaderOf, header_seen}
use Rattle.kc_combine.specs.MergedTables.{TableSeen}
use Rattle.kc_combine.specs.declared.combining.Combining.{Combining}
use Rattle.kc_combine.specs.declared.combining.Combining.TheVariants.{Merge}
use Rattle.kc_combine.specs.declared.judged_texts.JudgedText.{JudgedText}
use Rattle.kc_combine.specs.declared.placed_fault.PlacedFault.{PlacedFault}
use Rattle.kc_combine.specs.declared.written_tables.CombineFault.{CombineFault}
use Rattle.kc_combine.specs.declared.written_tables.CombineFault.TheVariants.{Table, Unlike, TooLarge, Memory}

-- the source gave a table text with this header, and this sum of its counts
abbrev pub IsJudged : Seen → Seen → ℕ → JudgedText → Type 0
IsJudged old new limit judged = (table : TableSeen) × GivesTable old new limit table
    × (judged.header ≡ header_seen table) × (judged.total ≡ total_of table.0.rows)

-- so many of the sources gave these tables, and the others are unchanged
abbrev pub GiveTablesTo : {S : Type 0} → (S → Seen) → ℕ → ℕ → List S → List S → List TableSeen → Type 0
GiveTablesTo seen zero limit olds news tables = (news ≡ olds) × (tables ≡ [])
GiveTablesTo seen (suc i) limit (old ∷ olds) (new ∷ news) (table ∷ tables) =
    GivesTable (seen old) (seen new) limit table × GiveTablesTo seen i limit olds news tables
GiveTablesTo seen (suc i) limit olds news tables = ⊥

-- the sum of the counts of all tables
abbrev pub total_of_all : List TableSeen → ℕ
total_of_all tables = sum_by (λ table. total_of table.0.rows) tables

-- the counts of tables that are merged are together at most 2 ^ 62
abbrev pub FitsInto : Combining → ℕ → Type 0
FitsInto Merge total = total ≤ 2 ^ 62
FitsInto combining total = ⊤

-- the tables have a header together, but their counts are too large
abbrev pub IsHeaderButTooLarge : Combining → List TableSeen → Type 0
IsHeaderButTooLarge combining tables = ((header : Header) × HasHeaderOf combining (map header_seen tables) header)
    × (¬ FitsInto combining (total_of_all tables))

-- the sources gave tables that can be combined, with this header
pub record CanCombine {S : Type 0} (seen : S → Seen) (combining : Combining) (limit : ℕ) (olds news : List S)
    (header : Header) : Type 0 where
  pub tables : List TableSeen
  pub given : GiveTables limit (map seen olds) (map seen news) tables
  pub headed : HasHeaderOf combining (map header_seen tables) header
  pub fits : FitsInto combining (total_of_all tables)

-- the first table with a fault, which is its first; the sources before it gave tables, and those after it are unchanged
pub record HasFirstFault {S : Type 0} (seen : S → Seen) (limit : ℕ) (olds news : List S)
    (fault : PlacedFault) : Type 0 where
  pub i : ℕ
  pub within : i < length olds
  pub tables : List TableSeen
  pub before : List S
  pub given : GiveTablesTo seen i limit olds before tables
  pub old : S
  pub was : get_or before i old ≡ old
  pub new : S
  pub are : news ≡ slice_set before i new
  pub place : fault.place ≡ i + 1
  pub refused : RefusesTable (seen old) (seen new) limit fault.fault

-- the sources gave tables that can't be combined, for this reason
pub record CanNotCombine {S : Type 0} (seen : S → Seen) (combining : Combining) (limit : ℕ) (olds news : List S)
    (fault : CombineFault PlacedFault) : Type 0 where
  pub tables : List TableSeen
  pub given : GiveTables limit (map seen olds) (map seen news) tables
  pub none : HasNoHeaderOf combining (map header_seen tables) fault
      ⊎ ((fault ≡ TooLarge) × IsHeaderButTooLarge combining tables)

-- Why tables can't be combined: one has a fault; or they don't match; or the sums of merged tables are too large; or
-- memory was refused.
abbrev pub JudgesNot : {S : Type 0} → (S → Seen) → Combining → ℕ → List S → List S → CombineFault PlacedFault → Type 0
JudgesNot seen combining limit olds news (Table fault) = HasFirstFault seen limit olds news fault
JudgesNot seen combining limit olds news Unlike = CanNotCombine seen combining limit olds news Unlike
JudgesNot seen combining limit olds news TooLarge = CanNotCombine seen combining limit olds news TooLarge
JudgesNot seen combining limit olds news Memory = ⊤
JudgesNot seen combining limit olds news fault = ⊥
