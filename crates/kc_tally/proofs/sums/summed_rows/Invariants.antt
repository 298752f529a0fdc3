use Rattle.std.proofs.Common.{◌+◌, length}
use Rattle.kc_tally.proofs.SumLemmas.{IsMerged}
use Rattle.kc_tally.proofs.sums.summed_rows.Given as goal

abbrev pub invariant-words : goal.invariant-words
invariant-words l = IsMerged l.first.k l.first.both l.first.rows l.second.rows l.sums l.firsts l.seconds

abbrev pub decreases-words : goal.decreases-words
decreases-words l = length l.firsts + length l.seconds
