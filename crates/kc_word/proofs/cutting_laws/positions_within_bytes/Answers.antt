use Rattle.kc_word.proofs.Cuttings.{position_total-le}
use Rattle.kc_word.proofs.cutting_laws.positions_within_bytes.Goals as goal

pub returns : goal.returns
returns c = position_total-le
