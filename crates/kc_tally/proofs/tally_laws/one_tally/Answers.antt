use Rattle.kc_tally.proofs.Tallies.{one_tally, one_value}
use Rattle.kc_tally.proofs.tally_laws.one_tally.Goals as goal

pub returns-clause-rows : goal.returns-clause-rows
returns-clause-rows c = one_tally

pub returns-clause-value : goal.returns-clause-value
returns-clause-value c = one_value
