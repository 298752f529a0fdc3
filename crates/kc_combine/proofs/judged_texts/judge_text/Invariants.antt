use Rattle.std.proofs.Common.{◌≡◌, ◌-◌, ◌^◌, List}
use Rattle.kc_tally.specs.declared.row.Row.{Row}
use Rattle.kc_tally.specs.Tally.{total_of}
use Rattle.kc_report.specs.RowByRow.{HasGivenRows}
use Rattle.kc_combine.proofs.judged_texts.judge_text.Given as goal

abbrev pub invariant-rows : goal.invariant-rows
invariant-rows g l = (rows : List Row)
    × HasGivenRows (g.S.Source.seen l.fn.source) (g.S.Source.seen l.source) l.limit rows l.reading
    × (l.total ≡ total_of rows)

abbrev pub decreases-rows : goal.decreases-rows
decreases-rows g l = 2 ^ 62 - l.reading.read.count
