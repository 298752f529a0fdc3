use Rattle.kc_gather.proofs.LawLemmas.{cutting_tally}
use Rattle.kc_gather.proofs.gather_laws.tally_of_cutting.Goals as goal

pub returns : goal.returns
returns c = cutting_tally
