use Rattle.std.proofs.Common.{◌-◌, ◌^◌}
use Rattle.kc_report.proofs.DumpedTextLemmas.{KeepsDump}
use Rattle.kc_report.proofs.dumped_text.write_dump_of_text.Given as goal

abbrev pub invariant-rows : goal.invariant-rows
invariant-rows g l =
    KeepsDump (g.S.Source.seen l.fn.source) (g.S.Source.seen l.source) l.limit l.k l.dump (g.W.Sink.seen l.fn.writer)
    (g.W.Sink.seen l.writer) l.block l.reading

abbrev pub decreases-rows : goal.decreases-rows
decreases-rows g l = 2 ^ 62 - l.reading.read.count
