use Rattle.kc_kmer.proofs.WordLemmas.{number-text}
use Rattle.kc_kmer.proofs.word_laws.number_of_text.Goals as goal

pub returns : goal.returns
returns c = number-text
