use Rattle.kc_kmer.proofs.ListedLemmas.{occurrences-listed, words_of-listed}
use Rattle.kc_kmer.proofs.word_laws.listed_words.Goals as goal

pub returns-clause-occurrences : goal.returns-clause-occurrences
returns-clause-occurrences c = occurrences-listed

pub returns-clause-words : goal.returns-clause-words
returns-clause-words c = words_of-listed
