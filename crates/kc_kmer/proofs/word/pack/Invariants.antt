use Rattle.std.proofs.Common.{take}
use Rattle.kc_kmer.proofs.Packing.{IsPacked}
use Rattle.kc_kmer.proofs.word.pack.Given as goal

abbrev pub invariant-loop-byte : goal.invariant-loop-byte
invariant-loop-byte l = IsPacked (take l.byte-index l.bytes) l.number
