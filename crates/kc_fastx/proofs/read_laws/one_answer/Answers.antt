use Rattle.kc_fastx.proofs.LawsAnswers.{answer}
use Rattle.kc_fastx.proofs.LawsPlain.{same_answer}
use Rattle.kc_fastx.proofs.read_laws.one_answer.Goals as goal

pub returns : goal.returns
returns c = record { some = answer; only = same_answer }
