use Rattle.std.proofs.Common.{append_assoc, refl}
use Rattle.kc_report.specs.Statistics.{statistics_lines}
use Rattle.kc_report.proofs.statistics.lines_of.Goals as goal

pub returns : goal.returns
unfolding statistics_lines
returns c =
    rw (
      c.push_line-4.ensures.pushed,
      c.push_line-3.ensures.pushed,
      c.push_line-2.ensures.pushed,
      c.push_line.ensures.pushed,
      c.new-block.ensures,
    ) (simp append_assoc refl)
