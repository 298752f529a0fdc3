use Rattle.std.proofs.Common.{length}
use Rattle.kc_fastx.proofs.FastaLemmas.{FastaSoFar}
use Rattle.kc_fastx.proofs.fasta.parse_fasta.Given as goal

abbrev pub invariant-records : goal.invariant-records
invariant-records l = FastaSoFar l.fn.lines l.lines l.reads.items

abbrev pub decreases-records : goal.decreases-records
decreases-records l = length l.lines.left
