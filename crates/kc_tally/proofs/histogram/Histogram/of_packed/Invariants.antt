use Rattle.kc_tally.proofs.Bins.{AreLeft}
use Rattle.kc_tally.proofs.Parts.{all_rows}
use Rattle.kc_tally.proofs.histogram.Histogram.of_packed.Given as goal

abbrev pub invariant-loop-row : goal.invariant-loop-row
invariant-loop-row l = AreLeft (all_rows l.parts) l.histogram l.total l.row-iterator
