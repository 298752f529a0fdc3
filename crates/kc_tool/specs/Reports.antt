-- Reports on a tally, and what a count of sources writes: source, our formats page ("Reports").
use Rattle.std.specs.Prelude.{◌≡◌, ◌≤◌, ◌⊎◌, ℕ, List, Option, Some, None, Result, Ok, Err, IfOk, ⊤}
use Rattle.kc_io.specs.Sinks.{Written, HasWritten, HasBegun}
use Rattle.kc_io.specs.Sources.{Seen}
use Rattle.kc_tool.specs.Tallies.{Counts, Given, IsRefusedCountOf, RefusesCount, RefusesSources, TableSeen}
use Rattle.kc_tool.specs.Tallies.{TalliesSources}
use Rattle.kc_tally.specs.Tally.{TallySeen}
use Rattle.kc_report.specs.declared.dump.Dump.{Dump}
use Rattle.kc_report.specs.Dumping.{dump_text}
use Rattle.kc_report.specs.Histo.{histo_text}
use Rattle.kc_report.specs.Statistics.{statistics_text}
use Rattle.kc_report.specs.Table.{table_text}
use Rattle.kc_tool.specs.declared.tool_faults.ToolFault.{ToolFault}
use Rattle.kc_tool.specs.declared.tool_faults.ToolFault.TheVariants.{Memory, Write}
use Rattle.kc_tool.specs.declared.reports.Report.{Report}
use Rattle.kc_tool.specs.declared.table_reports.TableReport.{TableReport}
use Rattle.kc_tool.specs.declared.table_reports.TableReport.TheVariants as lists
use Rattle.kc_tool.specs.declared.told.CountedWords.{CountedWords}
use Rattle.kc_tool.specs.Told.{counted_of}
use Rattle.kc_command.specs.declared.settings.Print.{Print}
use Rattle.kc_command.specs.declared.settings.Print.TheVariants as print
use Rattle.kc_command.specs.Settings.{Settings}

-- what is printed of a tally, with this form of a dump and this highest count of a histogram
abbrev pub printed_text : Print → Dump → ℕ → TableSeen → List ℕ
printed_text print.Table dump high table = table_text table.0 table.1
printed_text print.Dump dump high table = dump_text table.0.k dump table.0.rows
printed_text print.Histo dump high table = histo_text high table.0.rows
printed_text print.Stats dump high table = statistics_text table.0.rows

-- the text of a report on a tally; a table also has its origin
abbrev pub report_text : Report → TableSeen → List ℕ
report_text report table = printed_text report.print report.dump report.high table

-- the text of a report on a table that lists none of its rows
abbrev pub numbers_text : TableReport → TableSeen → List ℕ
numbers_text (lists.Histogram high) table = histo_text high table.0.rows
numbers_text lists.Statistics table = statistics_text table.0.rows

-- the greatest count whose words are counted by themselves for it
abbrev pub high_of : TableReport → ℕ
high_of (lists.Histogram high) = high
high_of lists.Statistics = 0

-- the highest count with a line of its own in a histogram of a table is 1 to 10,000,000
abbrev pub HasLines : TableReport → Type 0
HasLines (lists.Histogram high) = (1 ≤ high) × (high ≤ 10000000)
HasLines lists.Statistics = ⊤

-- the highest count with a line of its own in a histogram is 1 to 10,000,000
abbrev pub IsWritable : Report → Type 0
IsWritable report = (1 ≤ report.high) × (report.high ≤ 10000000)

-- the report of the settings
abbrev pub report_of : Settings → Report
report_of settings = record { print = settings.print; dump = settings.dump; high = settings.high }

-- the text was written; or a beginning of it, if writing failed; or memory was refused, and nothing was written
abbrev pub WritesText : {A : Type 0} → List ℕ → Written → Written → Result A ToolFault → Type 0
WritesText text old new (Ok done) = HasWritten old new text
WritesText text old new (Err Write) = HasBegun old new text
WritesText text old new (Err Memory) = new ≡ old
WritesText text old new (Err fault) = ⊥

-- the report was written, or a beginning of it, or nothing for lack of memory; or the tally is returned, and nothing
-- was written
abbrev pub WritesOrGives : {A : Type 0} → (A → TallySeen) → TableSeen → Report → Written → Written
    → Result (Option A) ToolFault → Type 0
WritesOrGives seen table report old new (Ok (Some tally)) = (seen tally ≡ table.0) × (new ≡ old)
WritesOrGives seen table report old new (Ok None) = HasWritten old new (report_text report table)
WritesOrGives seen table report old new (Err fault) =
    WritesText {A = Unit {0}} (report_text report table) old new (Err fault)

-- the text is the report of the settings on the tally of what was given, which has some later state
pub record IsReportOf (given : Given) (settings : Settings) (text : List ℕ) : Type 0 where
  pub later : Given
  pub table : TableSeen
  pub counted : Counts given later settings table
  pub is_text : text ≡ report_text (report_of settings) table

-- that text was written, and nothing else
abbrev pub WritesReport : Given → Settings → Written → Written → Type 0
WritesReport given settings old new = (text : List ℕ) × IsReportOf given settings text × HasWritten old new text

-- the writer failed, and took a beginning of that text
abbrev pub BeginsReport : Given → Settings → Written → Written → Type 0
BeginsReport given settings old new = (text : List ℕ) × IsReportOf given settings text × HasBegun old new text

-- nothing was written, and nothing was counted for this reason, with some later state of what was given
abbrev pub LeavesUnwritten : Given → Settings → Written → Written → ToolFault → Type 0
LeavesUnwritten given settings old new fault =
    (new ≡ old) × IsRefusedCountOf given settings fault

-- the report of the settings was written for a table that was counted, and the result has how much was counted; or a
-- beginning of it was written, or nothing for lack of memory; or nothing was counted for this reason, and nothing was
-- written
abbrev pub ReportsOn : (TableSeen → Type 0) → (ToolFault → Type 0) → Settings → Written → Written
    → Result CountedWords ToolFault → Type 0
ReportsOn Counted Refused settings old new outcome =
    ((table : TableSeen) × Counted table × WritesText (report_text (report_of settings) table) old new outcome
    × IfOk outcome (λ words. words ≡ counted_of table))
    ⊎ ((fault : ToolFault) × (outcome ≡ Err fault) × Refused fault × (new ≡ old))

-- the same result without how much was counted
abbrev pub done_of : Result CountedWords ToolFault → Result (Unit {0}) ToolFault
done_of (Ok words) = Ok tt
done_of (Err fault) = Err fault

-- the same for sources, with the words of a list if one is given
abbrev pub ReportsSources : List Seen → List Seen → Option (List ℕ) → Settings → Written → Written
    → Result CountedWords ToolFault → Type 0
ReportsSources old new list settings before after outcome =
    ReportsOn (TalliesSources old new settings list) (RefusesSources settings old new) settings before after outcome

-- the same for what was given
abbrev pub ReportsCount : Given → Given → Settings → Written → Written → Result CountedWords ToolFault → Type 0
ReportsCount old new settings before after outcome =
    ReportsOn (Counts old new settings) (RefusesCount old new settings) settings before after outcome
