-- The dump of a table text, written while the text is read. Source: our formats page ("Reports" and "The table text").
use Rattle.std.specs.Prelude.{◌≡◌, ◌≤◌, ◌⊎◌, ℕ, List, Option, length}
use Rattle.kc_io.specs.Sinks.{Written, Drains, HasBegun, HasWritten}
use Rattle.kc_io.specs.Sources.{Seen}
use Rattle.kc_tally.specs.declared.row.Row.{Row}
use Rattle.kc_tally.specs.Tally.{TallySeen}
use Rattle.kc_report.specs.declared.dump.Dump.{Dump}
use Rattle.kc_report.specs.declared.origin.Origin.{Origin}
use Rattle.kc_report.specs.declared.report_faults.ReportFault.{ReportFault}
use Rattle.kc_report.specs.declared.report_faults.ReportFault.TheVariants.{Write}
use Rattle.kc_report.specs.Dumping.{dump_text}
use Rattle.kc_report.specs.Lines.{block_size}
use Rattle.kc_report.specs.RowByRow.{HasGivenRows, TableStand, RefusesHeader, RefusesRow, tally_of}
use Rattle.kc_report.specs.TableReading.{GivesTable}

-- all bytes of the source were taken, they are a table text, and the dump of its rows is written
pub record DumpsTable (old new : Seen) (limit : ℕ) (dump : Dump) (start now : Written) : Type 0 where
  pub table : TallySeen × Option Origin
  pub given : GivesTable old new limit table
  pub written : HasWritten start now (dump_text table.0.k dump table.0.rows)

-- The source gave these rows, and was seen as `before` then. It gives no more for this reason. The sink took a prefix
-- of the dump of these rows, all but at most a block, and nothing failed there.
pub record StopsBehindRows (old new : Seen) (limit : ℕ) (dump : Dump) (start now : Written)
    (fault : ReportFault) : Type 0 where
  pub rows : List Row
  pub stand : TableStand
  pub before : Seen
  pub given : HasGivenRows old before limit rows stand
  pub refused : RefusesRow old new limit (tally_of stand rows) fault
  pub left : List ℕ
  pub drained : Drains start now (dump_text stand.read.k dump rows) left
  pub few : length left ≤ block_size

-- the sink failed, after it took a beginning of the dump of the rows that the source gave so far, or of all rows
pub record FailsInRows (old new : Seen) (limit : ℕ) (dump : Dump) (start now : Written) : Type 0 where
  pub rows : List Row
  pub stand : TableStand
  pub given : HasGivenRows old new limit rows stand ⊎ GivesTable old new limit (tally_of stand rows, stand.origin)
  pub begun : HasBegun start now (dump_text stand.read.k dump rows)

-- Why a table text was not dumped: the sink failed; or the source gave no header, and nothing was written; or it gave
-- no more after some rows.
abbrev pub DumpsNot : Seen → Seen → ℕ → Dump → Written → Written → ReportFault → Type 0
DumpsNot old new limit dump start now Write = FailsInRows old new limit dump start now
DumpsNot old new limit dump start now fault =
    (RefusesHeader old new limit fault × (now ≡ start)) ⊎ StopsBehindRows old new limit dump start now fault
