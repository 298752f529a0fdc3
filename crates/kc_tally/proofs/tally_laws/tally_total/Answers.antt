use Rattle.kc_tally.proofs.Tallies.{tally_total}
use Rattle.kc_tally.proofs.tally_laws.tally_total.Goals as goal

pub returns : goal.returns
returns c = tally_total
