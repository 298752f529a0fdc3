use Rattle.kc_kmer.specs.Word.{text}
use Rattle.kc_kmer.proofs.Looking.{IsCountedTo}
use Rattle.kc_kmer.proofs.slow_count.occurrences_in.Given as goal

abbrev pub invariant-loop-position : goal.invariant-loop-position
invariant-loop-position l = IsCountedTo l.rule l.read (text l.rule.k l.word.0) l.position l.count
