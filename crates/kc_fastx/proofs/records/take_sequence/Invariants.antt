use Rattle.std.proofs.Common.{length}
use Rattle.kc_fastx.specs.Lines.{Passes}
use Rattle.kc_fastx.proofs.RecordsLemmas.{SequenceSoFar}
use Rattle.kc_fastx.proofs.records.take_sequence.Given as goal

abbrev pub invariant-lines : goal.invariant-lines
invariant-lines l = record {
  so_far : SequenceSoFar l.stop l.fn.lines l.lines l.bases.items;
  passes : Passes l.fn.lines l.lines;
}

abbrev pub decreases-lines : goal.decreases-lines
decreases-lines l = length l.lines.left
