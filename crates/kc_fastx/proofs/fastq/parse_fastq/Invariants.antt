use Rattle.std.proofs.Common.{length}
use Rattle.kc_fastx.proofs.FastqLemmas.{FastqSoFar}
use Rattle.kc_fastx.proofs.fastq.parse_fastq.Given as goal

abbrev pub invariant-records : goal.invariant-records
invariant-records l = FastqSoFar l.fn.lines l.lines l.reads.items

abbrev pub decreases-records : goal.decreases-records
decreases-records l = length l.lines.left
