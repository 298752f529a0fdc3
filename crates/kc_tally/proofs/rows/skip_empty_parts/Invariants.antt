use Rattle.std.proofs.Common.{◌≡◌, ◌++◌, length}
use Rattle.kc_tally.proofs.Parts.{all_rows}
use Rattle.kc_tally.proofs.rows.skip_empty_parts.Given as goal

abbrev pub invariant-loop-part : goal.invariant-loop-part
invariant-loop-part l = l.part ++ all_rows l.later ≡ l.fn.part ++ all_rows l.fn.later

abbrev pub decreases-loop-part : goal.decreases-loop-part
decreases-loop-part l = length l.later
