use Rattle.std.proofs.Common.{◌≡◌, ◌++◌, take, drop}
use Rattle.kc_kmer.specs.Word.{text}
use Rattle.kc_kmer.proofs.word.text.Given as goal

abbrev pub invariant-loop-i : goal.invariant-loop-i
invariant-loop-i l = l.letters ≡ take l.i (text l.fn.k l.fn.word.0) ++ drop l.i l.initial.letters
