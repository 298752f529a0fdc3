use Rattle.std.proofs.Common.{◌+◌, ◌++◌, drop}
use Rattle.kc_io.proofs.SinksLemmas.{Pending}
use Rattle.kc_report.specs.Histo.{lines_from}
use Rattle.kc_report.proofs.histogram_text.histo_by_blocks.Given as goal

abbrev pub invariant-loop-i : goal.invariant-loop-i
invariant-loop-i g l =
    Pending (g.W.Sink.seen l.fn.writer) (g.W.Sink.seen l.writer) (lines_from 1 l.words l.above) (l.block ++ lines_from (l.i + 1) (drop l.i l.words) l.above)
