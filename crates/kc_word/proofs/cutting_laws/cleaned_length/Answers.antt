use Rattle.kc_word.proofs.Cleaning.{length-cleaned}
use Rattle.kc_word.proofs.cutting_laws.cleaned_length.Goals as goal

pub returns : goal.returns
returns c = length-cleaned
