use Rattle.std.proofs.Common.{ap, ◌∙◌}
use Rattle.kc_kmer.specs.Letter.{are_bases}
use Rattle.kc_kmer.specs.Word.{text}
use Rattle.kc_kmer.proofs.WordLemmas.{upper-bases, are_bases-text, same_from_text}
use Rattle.kc_kmer.proofs.word_laws.packed_text.Goals as goal

pub returns : goal.returns
returns c = λ k n h. (ap are_bases (upper-bases (text k n) (are_bases-text k n)) ∙ are_bases-text k n, λ m below e. same_from_text k m n below h (e ∙ upper-bases (text k n) (are_bases-text k n)))
