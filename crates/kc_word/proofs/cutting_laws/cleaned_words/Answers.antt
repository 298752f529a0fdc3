use Rattle.kc_word.proofs.Cleaning.{words_of-cleaned}
use Rattle.kc_word.proofs.cutting_laws.cleaned_words.Goals as goal

pub returns : goal.returns
returns c = words_of-cleaned
