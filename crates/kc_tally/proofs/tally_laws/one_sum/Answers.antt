use Rattle.kc_tally.proofs.Tallies.{one_sum}
use Rattle.kc_tally.proofs.tally_laws.one_sum.Goals as goal

pub returns : goal.returns
returns c = one_sum
