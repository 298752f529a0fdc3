use Rattle.kc_combine.proofs.ResultLemmas.{sum_of_two}
use Rattle.kc_combine.proofs.combining_laws.sum_of_two.Goals as goal

pub returns : goal.returns
returns c = sum_of_two
