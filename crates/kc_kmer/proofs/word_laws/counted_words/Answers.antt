use Rattle.kc_kmer.proofs.WordCounts.{times-words_of}
use Rattle.kc_kmer.proofs.word_laws.counted_words.Goals as goal

pub returns : goal.returns
returns c = times-words_of
