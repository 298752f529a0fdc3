use Rattle.kc_kmer.proofs.WordLemmas.{slice_cmp-text}
use Rattle.kc_kmer.proofs.word_laws.order_of_texts.Goals as goal

pub returns : goal.returns
returns c = slice_cmp-text
