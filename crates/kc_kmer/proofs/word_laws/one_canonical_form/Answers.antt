use Rattle.kc_kmer.specs.Word.{text}
use Rattle.kc_kmer.proofs.WordLemmas.{canonical-reverse_complement, are_bases-text}
use Rattle.kc_kmer.proofs.word_laws.one_canonical_form.Goals as goal

pub returns : goal.returns
returns c = λ k n. canonical-reverse_complement (text k n) (are_bases-text k n)
