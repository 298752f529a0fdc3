use Rattle.std.proofs.Common.{◌≡◌, length, take}
use Rattle.kc_tally.proofs.Parts.{all_rows}
use Rattle.kc_tally.proofs.tally.row_count.Given as goal

abbrev pub invariant-loop-part : goal.invariant-loop-part
invariant-loop-part l = l.count ≡ length (all_rows (take l.part-index l.parts))
