use Rattle.kc_kmer.specs.Word.{text}
use Rattle.kc_kmer.proofs.WordLemmas.{reverse_complement-twice, are_bases-text}
use Rattle.kc_kmer.proofs.word_laws.reversed_twice.Goals as goal

pub returns : goal.returns
returns c = λ k n. reverse_complement-twice (text k n) (are_bases-text k n)
