use Rattle.kc_combine.proofs.ResultLemmas.{total_of_sum}
use Rattle.kc_combine.proofs.combining_laws.total_of_sum.Goals as goal

pub returns : goal.returns
returns c = total_of_sum
