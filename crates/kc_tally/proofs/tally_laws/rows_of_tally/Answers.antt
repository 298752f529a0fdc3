use Rattle.kc_tally.proofs.Tallies.{tally-AreRows}
use Rattle.kc_tally.proofs.tally_laws.rows_of_tally.Goals as goal

pub returns : goal.returns
returns c = tally-AreRows
