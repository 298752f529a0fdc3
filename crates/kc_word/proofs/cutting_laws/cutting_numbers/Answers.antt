use Rattle.kc_word.proofs.Cuttings.{get_or-cutting}
use Rattle.kc_word.proofs.cutting_laws.cutting_numbers.Goals as goal

pub returns : goal.returns
returns c = get_or-cutting
