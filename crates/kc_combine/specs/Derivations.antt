-- What commands derive from tables: the text of it, and why there is none.
-- Source: our formats page ("Merging", the commands over several tables, `compare` and `dump`).
use Rattle.std.specs.Prelude.{◌≡◌, ℕ, ◌^◌, ◌≤◌, List, [], ◌∷◌, map, Option, None, Some, ⊤}
use Rattle.kc_io.specs.Sinks.{HasBegun, HasWritten, Written}
use Rattle.kc_io.specs.Sources.{Seen}
use Rattle.kc_report.specs.DumpedText.{DumpsNot}
use Rattle.kc_report.specs.Dumping.{dump_text}
use Rattle.kc_report.specs.declared.report_faults.ReportFault.{ReportFault}
use Rattle.kc_report.specs.declared.report_faults.ReportFault.TheVariants as report
use Rattle.kc_combine.specs.CombinedTexts.{AreOpened, CombinesNot, CombinesTables, FailsOne, GiveTables}
use Rattle.kc_combine.specs.CombinedTexts.{header_of, header_seen}
use Rattle.kc_combine.specs.Compared.{comparison_of, comparison_text, spectrum_text}
use Rattle.kc_combine.specs.LoadedTables.{CombinesNoTables}
use Rattle.kc_combine.specs.MergedTables.{TableSeen}
use Rattle.kc_combine.specs.VisitedTexts.{AllHaveSameWords, AreVisited}
use Rattle.kc_combine.specs.declared.combining.Combining.{Combining}
use Rattle.kc_combine.specs.declared.combining.Combining.TheVariants.{Intersect}
use Rattle.kc_combine.specs.declared.combining_rules.Take.TheVariants as takes
use Rattle.kc_combine.specs.declared.derived.Derived.{Derived}
use Rattle.kc_combine.specs.declared.derived.Derived.TheVariants as derive
use Rattle.kc_combine.specs.declared.opening.Opening.{Opening}
use Rattle.kc_combine.specs.declared.placed_fault.PlacedFault.{PlacedFault}
use Rattle.kc_combine.specs.declared.written_tables.CombineFault.{CombineFault}
use Rattle.kc_combine.specs.declared.written_tables.CombineFault.TheVariants.{Table, Unlike, TooLarge, Write, Memory}
use Rattle.kc_combine.specs.declared.written_tables.Totals.{Totals}

-- tables match as for this combination if their words have one length and count the same strands
abbrev pub words_alone : Combining
words_alone = Intersect (record { take = takes.Least })

-- tables match as for this combination
abbrev pub combining_of : Derived → Combining
combining_of (derive.Table combining) = combining
combining_of derived = words_alone

-- so many tables are taken: two to be compared, one for a dump
abbrev pub TakesTables : Derived → ℕ → Type 0
TakesTables (derive.Table combining) count = 1 ≤ count
TakesTables (derive.Comparison solid) count = count ≡ 2
TakesTables (derive.Spectrum high) count = count ≡ 2
TakesTables (derive.Dump dump) count = count ≡ 1

-- a spectrum has a line for each count up to one of 1 to 10,000,000
abbrev pub HasHigh : Derived → Type 0
HasHigh (derive.Spectrum high) = (1 ≤ high) × (high ≤ 10000000)
HasHigh derived = ⊤

-- the text that is derived from these tables, if it is no table
abbrev pub IsDerivedText : Derived → List TableSeen → List ℕ → Type 0
IsDerivedText (derive.Comparison solid) tables text =
    AreVisited tables (λ words. text ≡ comparison_text (comparison_of solid words))
IsDerivedText (derive.Spectrum high) tables text = AreVisited tables (λ words. text ≡ spectrum_text high words)
IsDerivedText (derive.Dump dump) (table ∷ []) text = text ≡ dump_text table.0.k dump table.0.rows
IsDerivedText derived tables text = ⊥

-- the text was written: a table with these totals, or another text
abbrev pub DerivesTables : Derived → List TableSeen → Written → Written → Option Totals → Type 0
DerivesTables (derive.Table combining) tables start now (Some totals) =
    CombinesTables combining tables start now totals × (totals.total ≤ 2 ^ 62)
DerivesTables (derive.Table combining) tables start now None = ⊥
DerivesTables derived tables start now totals =
    (totals ≡ None) × ((text : List ℕ) × IsDerivedText derived tables text × HasWritten start now text)

-- why it was not written whole: the tables don't match, and nothing was written; or the writer failed, and took a
-- beginning of it; or memory was refused, and nothing was written
abbrev pub DerivesNoTables : Derived → List TableSeen → Written → Written → CombineFault PlacedFault → Type 0
DerivesNoTables (derive.Table combining) tables start now fault = CombinesNoTables combining tables start now fault
DerivesNoTables derived tables start now Unlike = (now ≡ start) × (¬ AllHaveSameWords (map header_seen tables))
DerivesNoTables derived tables start now Write =
    (text : List ℕ) × IsDerivedText derived tables text × HasBegun start now text
DerivesNoTables derived tables start now Memory = now ≡ start
DerivesNoTables derived tables start now fault = ⊥

-- ---- table texts

-- the sources gave tables, and the text that is derived from these was written
abbrev pub DerivesTexts : Derived → ℕ → List Seen → List Seen → Written → Written → Option Totals → Type 0
DerivesTexts derived limit olds news start now totals = (tables : List TableSeen)
    × GiveTables limit olds news tables × DerivesTables derived tables start now totals

-- the view of a view
abbrev pub same_view : Seen → Seen
same_view seen = seen

-- the fault of a dump
abbrev pub dump_fault : ReportFault → CombineFault PlacedFault
dump_fault report.Write = Write
dump_fault fault = Table (record { place = 1; fault = fault })

-- why the text was not written whole: a source gave no table, or the tables don't match, and nothing was written; or
-- the writer failed, and took a beginning of it; or memory was refused, and nothing was written. Of a table and of a
-- dump the writer may have taken the text of the rows before the fault
abbrev pub DerivesNoTexts : Derived → ℕ → List Seen → List Seen → Written → Written → CombineFault PlacedFault → Type 0
DerivesNoTexts (derive.Table combining) limit olds news start now fault =
    CombinesNot same_view combining limit olds news start now fault
DerivesNoTexts (derive.Dump dump) limit (old ∷ []) (new ∷ []) start now fault =
    (why : ReportFault) × DumpsNot old new limit dump start now why × (fault ≡ dump_fault why)
DerivesNoTexts derived limit olds news start now (Table fault) =
    (now ≡ start) × FailsOne same_view limit olds news (Table fault)
DerivesNoTexts derived limit olds news start now Unlike = (now ≡ start) × ((openings : List Opening)
    × AreOpened same_view limit olds news openings × (¬ AllHaveSameWords (map header_of openings)))
DerivesNoTexts derived limit olds news start now Write = (tables : List TableSeen)
    × GiveTables limit olds news tables
    × ((text : List ℕ) × IsDerivedText derived tables text × HasBegun start now text)
DerivesNoTexts derived limit olds news start now Memory = now ≡ start
DerivesNoTexts derived limit olds news start now TooLarge = ⊥
