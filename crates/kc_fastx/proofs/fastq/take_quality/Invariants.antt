use Rattle.std.proofs.Common.{length}
use Rattle.kc_fastx.specs.Lines.{Passes}
use Rattle.kc_fastx.proofs.FastqLemmas.{QualitySoFar}
use Rattle.kc_fastx.proofs.fastq.take_quality.Given as goal

abbrev pub invariant-lines : goal.invariant-lines
invariant-lines l = record {
  so_far : QualitySoFar l.need l.fn.lines l.lines l.quals.items;
  passes : Passes l.fn.lines l.lines;
}

abbrev pub decreases-lines : goal.decreases-lines
decreases-lines l = length l.lines.left
