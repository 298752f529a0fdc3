use Rattle.kc_kmer.proofs.WordLemmas.{text-canonical}
use Rattle.kc_kmer.proofs.word.canonical.Goals as goal

pub returns-then-other-word-clause-lesser : goal.returns-then-other-word-clause-lesser
returns-then-other-word-clause-lesser c =
    (text-canonical c.args.k c.args.word.0 c.reverse_complement-other.result.0 c.requires c.reverse_complement-other.ensures.below c.reverse_complement-other.ensures.read_back).0 c.if-other-word.true

pub returns-else-other-word-clause-lesser : goal.returns-else-other-word-clause-lesser
returns-else-other-word-clause-lesser c =
    (text-canonical c.args.k c.args.word.0 c.reverse_complement-other.result.0 c.requires c.reverse_complement-other.ensures.below c.reverse_complement-other.ensures.read_back).1 c.if-other-word.false
