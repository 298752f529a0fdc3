use Rattle.std.proofs.Common.{drop}
use Rattle.kc_command.proofs.NumbersLemmas.{Reads}
use Rattle.kc_command.proofs.numbers.number.Given as goal

abbrev pub invariant-loop-byte : goal.invariant-loop-byte
invariant-loop-byte l = Reads l.text l.number (drop l.byte-index l.text)
