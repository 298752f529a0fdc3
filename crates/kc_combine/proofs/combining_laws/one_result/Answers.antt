use Rattle.kc_combine.proofs.ResultLemmas.{has_result, one_result}
use Rattle.kc_combine.proofs.combining_laws.one_result.Goals as goal

pub returns-clause-some : goal.returns-clause-some
returns-clause-some c = has_result

pub returns-clause-one : goal.returns-clause-one
returns-clause-one c = one_result
