use Rattle.kc_tally.proofs.Bins.{IsJoinedTo}
use Rattle.kc_tally.proofs.histogram.Histogram.add.Given as goal

abbrev pub invariant-loop-i : goal.invariant-loop-i
invariant-loop-i l = IsJoinedTo l.i l.initial.self-inside.bins.items l.other-inside.bins.items l.self-inside.bins.items
