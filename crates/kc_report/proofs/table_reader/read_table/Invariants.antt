use Rattle.std.proofs.Common.{◌-◌, ◌^◌, length}
use Rattle.kc_report.specs.RowByRow.{HasGivenRows}
use Rattle.kc_report.proofs.table_reader.read_table.Given as goal

abbrev pub invariant-rows : goal.invariant-rows
invariant-rows g l = HasGivenRows (g.R.Source.seen l.fn.reader) (g.R.Source.seen l.reader) l.limit l.rows l.reading

abbrev pub decreases-rows : goal.decreases-rows
decreases-rows g l = 2 ^ 62 - length l.rows
