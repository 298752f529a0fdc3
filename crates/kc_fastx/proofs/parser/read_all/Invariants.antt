use Rattle.std.proofs.Common.{◌-◌}
use Rattle.kc_fastx.specs.Reading.{HasGiven}
use Rattle.kc_fastx.proofs.parser.read_all.Given as goal

abbrev pub invariant-reads : goal.invariant-reads
invariant-reads g l = HasGiven (g.R.Source.seen l.fn.reader) (g.R.Source.seen l.reader) l.limit l.reads.items l.reading

abbrev pub decreases-reads : goal.decreases-reads
decreases-reads g l = l.limit - l.reading.used
