use Rattle.kc_word.proofs.OnlyLemmas.{one-list}
use Rattle.kc_word.proofs.only_laws.one_list.Goals as goal

pub returns : goal.returns
returns c = one-list
