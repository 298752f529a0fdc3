use Rattle.kc_combine.proofs.ResultLemmas.{makes_rows}
use Rattle.kc_combine.proofs.combining_laws.made_rows.Goals as goal

pub returns : goal.returns
returns c = makes_rows
