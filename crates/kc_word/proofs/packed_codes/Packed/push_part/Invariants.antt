use Rattle.std.proofs.Common.{◌*◌, min}
use Rattle.kc_word.proofs.Appending.{IsAppended}
use Rattle.kc_word.proofs.packed_codes.Packed.push_part.Given as goal

abbrev pub invariant-loop-j : goal.invariant-loop-j
invariant-loop-j l = IsAppended l.fn.self l.self l.other l.from (min (l.j * 32) l.count)
