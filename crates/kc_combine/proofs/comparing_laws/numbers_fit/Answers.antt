use Rattle.kc_combine.proofs.ComparedLemmas.{numbers_fit, words_fit}
use Rattle.kc_combine.proofs.comparing_laws.numbers_fit.Goals as goal

pub returns-clause-numbers : goal.returns-clause-numbers
returns-clause-numbers c = numbers_fit

pub returns-clause-words : goal.returns-clause-words
returns-clause-words c = words_fit
