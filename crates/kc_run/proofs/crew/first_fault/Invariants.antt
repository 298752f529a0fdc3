use Rattle.kc_run.proofs.CrewLemmas.{WellBefore}
use Rattle.kc_run.proofs.crew.first_fault.Given as goal

abbrev pub invariant-loop-ended : goal.invariant-loop-ended
invariant-loop-ended g l = WellBefore l.results l.ended-index
