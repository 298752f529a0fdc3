use Rattle.std.proofs.Common.{◌-◌, ◌^◌, List}
use Rattle.kc_tally.specs.declared.row.Row.{Row}
use Rattle.kc_report.specs.Numbers.{IsCountOf}
use Rattle.kc_report.specs.RowByRow.{HasGivenRows}
use Rattle.kc_report.proofs.table_numbers.read_numbers.Given as goal

abbrev pub invariant-rows : goal.invariant-rows
invariant-rows g l = (rows : List Row)
    × HasGivenRows (g.R.Source.seen l.fn.reader) (g.R.Source.seen l.reader) l.limit rows l.reading
    × IsCountOf l.high rows l.numbers

abbrev pub decreases-rows : goal.decreases-rows
decreases-rows g l = 2 ^ 62 - l.reading.read.count
