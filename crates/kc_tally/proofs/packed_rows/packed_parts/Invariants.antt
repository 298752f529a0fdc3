use Rattle.std.proofs.Common.{[], length}
use Rattle.kc_tally.proofs.PackingSteps.{IsPackedFrom}
use Rattle.kc_tally.proofs.packed_rows.packed_parts.Given as goal

abbrev pub invariant-parts : goal.invariant-parts
invariant-parts l = IsPackedFrom l.fn.rows.items l.rows.items [] l.packed.items

abbrev pub decreases-parts : goal.decreases-parts
decreases-parts l = length l.rows.items
