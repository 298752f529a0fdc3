-- The reports of two counts, and their merged table: source, our formats page ("Merging").
use Rattle.std.specs.Prelude.{◌≡◌, ℕ, List, [], ◌∷◌, ◌++◌, map, Some, None, Ok}
use Rattle.kc_io.specs.Sinks.{Written, HasWritten}
use Rattle.kc_io.specs.Sources.{Seen}
use Rattle.kc_gzip.specs.Intakes.{TakesAll}
use Rattle.kc_fastx.specs.Reads.{Read}
use Rattle.kc_kmer.specs.Rule.{CountingRule}
use Rattle.kc_tally.specs.Tally.{TallySeen, IsTallyOf}
use Rattle.kc_report.specs.Table.{table_text}
use Rattle.kc_report.specs.TableReading.{IsTableOf}
use Rattle.kc_report.specs.Merging.{AreAlike, AreSmall, Merges, counted_from}
use Rattle.kc_command.specs.declared.settings.Print.TheVariants as print
use Rattle.kc_command.specs.Settings.{Settings, rule_of}
use Rattle.kc_tool.specs.Reports.{IsReportOf}
use Rattle.kc_tool.specs.Tallies.{ReadsSources, TableSeen, given}
use Rattle.kc_combine.specs.declared.combining.Combining.TheVariants as combination
use Rattle.kc_combine.specs.declared.derived.Derived.TheVariants as derive
use Rattle.kc_tool.specs.Commands.{Derives, DerivesFiles, most_table_bytes}
use Rattle.kc_tool.specs.declared.told.Told.{Told}

-- read as a table, the text has the tally of these reads under the rule, and its origin: their number, the floor of the
-- rule, and no list
pub record TellsReads (rule : CountingRule) (reads : List Read) (text : List ℕ) : Type 0 where
  pub tally : TallySeen
  pub counted : IsTallyOf rule reads tally
  pub told : IsTableOf text (Ok (tally, counted_from rule reads))

-- both texts are read as tables, these are added, and this is the table text of the sum
pub record AreMerged (first second text : List ℕ) : Type 0 where
  pub table : TableSeen
  pub other : TableSeen
  pub merged : TableSeen
  pub told : IsTableOf first (Ok table)
  pub other_told : IsTableOf second (Ok other)
  pub merges : Merges table.0 other.0 table.1 other.1 (Ok merged)
  pub is_text : text ≡ table_text merged.0 merged.1

-- the text is the report of a count without a list, of sources with these bytes
pub record IsReportOn (settings : Settings) (inputs : List (List ℕ)) (text : List ℕ) : Type 0 where
  pub sources : List Seen
  pub tell : map (λ source. source.left) sources ≡ map (λ input. Some input) inputs
  pub report : IsReportOf (given None sources) settings text

-- ---- laws

-- if the report of a count without a list is a table, it has the tally and the origin of the reads that the sources
-- gave
abbrev pub ReportTellsReads : Settings → Type 0
ReportTellsReads settings = (sources : List Seen) (text : List ℕ) → settings.print ≡ print.Table
    → (report : IsReportOf (given None sources) settings text)
    → (reads : List Read) × ReadsSources sources report.later.sources reads × TellsReads (rule_of settings) reads text

-- two texts of reads under one rule match, whichever tables they are read as
abbrev pub ReportsMatch : Type 0
ReportsMatch = (rule : CountingRule) (reads more : List Read) (first second : List ℕ) (table other : TableSeen)
    → TellsReads rule reads first → TellsReads rule more second
    → IsTableOf first (Ok table) → IsTableOf second (Ok other) → AreAlike table.0 other.0 table.1 other.1

-- two reports of counts without a list that are tables are never too large to be added, whatever the sources gave: no
-- count takes more than 2 ^ 36 bytes
abbrev pub ReportsFit : Settings → Type 0
ReportsFit settings = (sources more : List Seen) (first second : List ℕ) (table other : TableSeen)
    → settings.print ≡ print.Table
    → IsReportOf (given None sources) settings first → IsReportOf (given None more) settings second
    → IsTableOf first (Ok table) → IsTableOf second (Ok other) → AreSmall table.0 other.0 table.1 other.1

-- the merged text is that of the reads of the first followed by those of the second
abbrev pub MergedReports : Type 0
MergedReports = (rule : CountingRule) (reads more : List Read) (first second text : List ℕ)
    → TellsReads rule reads first → TellsReads rule more second → AreMerged first second text
    → TellsReads rule (reads ++ more) text

-- only one text has these reads
abbrev pub OneReport : Type 0
OneReport = (rule : CountingRule) (reads : List Read) (text other : List ℕ)
    → TellsReads rule reads text → TellsReads rule reads other → text ≡ other

-- the tables of two inputs that were counted separately, merged, are byte for byte the table of both counted together
abbrev pub ApartIsTogether : Settings → Type 0
ApartIsTogether settings = (inputs more : List (List ℕ)) (first second merged whole : List ℕ)
    → settings.print ≡ print.Table → IsReportOn settings inputs first → IsReportOn settings more second
    → AreMerged first second merged → IsReportOn settings (inputs ++ more) whole → merged ≡ whole

-- the command `merge` writes the sum of the tables in the texts that its two files gave
abbrev pub MergeWritesMerged : Type 0
MergeWritesMerged = (first second first_after second_after : Seen) (start now : Written) (told : Told)
    → Derives (derive.Table combination.Merge) (first ∷ second ∷ []) (first_after ∷ second_after ∷ []) start now
    (Ok told)
    → (one other text : List ℕ) × TakesAll first first_after most_table_bytes one
    × TakesAll second second_after most_table_bytes other × AreMerged one other text × HasWritten start now text

-- so it does if it opens the files twice: it writes the sum of the tables in the texts that they gave the second time
abbrev pub MergeWritesMergedFiles : Type 0
MergeWritesMergedFiles = (one other first second one_after other_after first_after second_after : Seen)
    (start now : Written) (told : Told)
    → DerivesFiles (derive.Table combination.Merge) (one ∷ other ∷ first ∷ second ∷ [])
    (one_after ∷ other_after ∷ first_after ∷ second_after ∷ []) start now (Ok told)
    → (text more merged : List ℕ) × TakesAll first first_after most_table_bytes text
    × TakesAll second second_after most_table_bytes more × AreMerged text more merged × HasWritten start now merged
