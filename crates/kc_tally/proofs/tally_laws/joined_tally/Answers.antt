use Rattle.kc_tally.proofs.Tallies.{joined_tally, summed_tally}
use Rattle.kc_tally.proofs.tally_laws.joined_tally.Goals as goal

pub returns-clause-joined : goal.returns-clause-joined
returns-clause-joined c = joined_tally

pub returns-clause-summed : goal.returns-clause-summed
returns-clause-summed c = summed_tally
