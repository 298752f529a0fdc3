use Rattle.kc_word.proofs.UsableLemmas.{IsTaken}
use Rattle.kc_word.proofs.usable_codes.block_of.Given as goal

abbrev pub invariant-loop-i : goal.invariant-loop-i
invariant-loop-i l = IsTaken l.rule l.read l.from l.i l.number l.seen
