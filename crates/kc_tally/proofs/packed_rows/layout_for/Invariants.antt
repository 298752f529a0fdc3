use Rattle.kc_tally.proofs.PackingSteps.{IsWithin}
use Rattle.kc_tally.proofs.packed_rows.layout_for.Given as goal

abbrev pub invariant-loop-row : goal.invariant-loop-row
invariant-loop-row l = IsWithin l.rows l.row-index l.least l.greatest
