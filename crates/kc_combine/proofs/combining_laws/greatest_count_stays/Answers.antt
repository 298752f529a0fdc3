use Rattle.kc_combine.proofs.CountLemmas.{greatest_stays}
use Rattle.kc_combine.proofs.combining_laws.greatest_count_stays.Goals as goal

pub returns : goal.returns
returns c = greatest_stays
