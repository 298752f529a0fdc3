use Rattle.kc_combine.proofs.MergedLemmas.{merges_two}
use Rattle.kc_combine.proofs.combining_laws.merge_of_two.Goals as goal

pub returns : goal.returns
returns c = merges_two
