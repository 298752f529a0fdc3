use Rattle.std.proofs.Common.{◌≡◌, ◌+◌, length, take}
use Rattle.kc_tally.proofs.Parts.{all_rows}
use Rattle.kc_tally.proofs.rows.whole_parts.Given as goal

abbrev pub invariant-loop-i : goal.invariant-loop-i
invariant-loop-i l = l.left + length (all_rows (take l.i l.parts)) ≡ l.most
