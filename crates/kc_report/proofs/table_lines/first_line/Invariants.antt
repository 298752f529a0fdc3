use Rattle.std.proofs.Common.{◌≤◌, length, take}
use Rattle.kc_gzip.specs.Intakes.{Filled}
use Rattle.kc_report.specs.Bytes.{line_feed}
use Rattle.kc_report.specs.Lines.{Without, CameForLine}
use Rattle.kc_report.proofs.table_lines.first_line.Given as goal

abbrev pub invariant-searching : goal.invariant-searching
invariant-searching g l = record {
  filled : Filled (g.R.Source.seen l.fn.reader) (g.R.Source.seen l.reader) l.fn.intake l.intake;
  within : l.searched ≤ length l.intake.bytes;
  none : Without line_feed (take l.searched l.intake.bytes);
  came : CameForLine (g.R.Source.seen l.fn.reader) (g.R.Source.seen l.reader) l.fn.intake l.intake;
}

abbrev pub decreases-searching : goal.decreases-searching
decreases-searching g l = l.intake.room
