use Rattle.kc_tally.proofs.Tallies.{bounded_tally}
use Rattle.kc_tally.proofs.tally_laws.bounded_tally.Goals as goal

pub returns : goal.returns
returns c = bounded_tally
