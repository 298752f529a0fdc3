use Rattle.std.proofs.Common.{◌-◌, ◌^◌, map}
use Rattle.std.specs.Prelude.{string_bytes}
use Rattle.kc_report.proofs.AskedLemmas.{KeepsAsked}
use Rattle.kc_report.proofs.queries.read_asked.Given as goal

abbrev pub invariant-rows : goal.invariant-rows
invariant-rows g l =
    KeepsAsked (g.R.Source.seen l.fn.reader) (g.R.Source.seen l.reader) l.limit (map string_bytes l.words) l.asked.words
    l.asked.passed l.rows l.reading

abbrev pub decreases-rows : goal.decreases-rows
decreases-rows g l = 2 ^ 62 - l.reading.read.count
