use Rattle.kc_word.proofs.Cuttings.{cutting-positions}
use Rattle.kc_word.proofs.cutting_laws.cutting_positions.Goals as goal

pub returns : goal.returns
returns c = cutting-positions
