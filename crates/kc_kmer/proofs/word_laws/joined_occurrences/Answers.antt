use Rattle.kc_kmer.proofs.WordCounts.{occurrences-append}
use Rattle.kc_kmer.proofs.word_laws.joined_occurrences.Goals as goal

pub returns : goal.returns
returns c = occurrences-append
