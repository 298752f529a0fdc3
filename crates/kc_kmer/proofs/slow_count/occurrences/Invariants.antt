use Rattle.std.proofs.Common.{take}
use Rattle.kc_kmer.specs.Word.{text}
use Rattle.kc_kmer.proofs.Looking.{IsSummedTo}
use Rattle.kc_kmer.proofs.slow_count.occurrences.Given as goal

abbrev pub invariant-loop-read : goal.invariant-loop-read
invariant-loop-read l = IsSummedTo l.rule (take l.read-index l.reads) (text l.rule.k l.word.0) l.count
