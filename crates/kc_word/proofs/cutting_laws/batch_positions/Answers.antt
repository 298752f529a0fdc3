use Rattle.kc_word.proofs.Cuttings.{batch-positions, batch-inhabited}
use Rattle.kc_word.proofs.cutting_laws.batch_positions.Goals as goal

pub returns : goal.returns
returns c = λ k size i pieces some size_some within. (batch-positions k size i pieces some, batch-inhabited k size i pieces some size_some within)
