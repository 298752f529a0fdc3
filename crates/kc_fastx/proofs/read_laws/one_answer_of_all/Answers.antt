use Rattle.kc_fastx.proofs.LawsOfAll.{answer_of_all, same_answer_of_all}
use Rattle.kc_fastx.proofs.read_laws.one_answer_of_all.Goals as goal

pub returns : goal.returns
returns c = record { some = answer_of_all; only = same_answer_of_all }
