use Rattle.std.proofs.Common.{◌≡◌, length, take}
use Rattle.kc_tally.specs.Packing.{large_rows}
use Rattle.kc_tally.proofs.packed_rows.large_count.Given as goal

abbrev pub invariant-loop-row : goal.invariant-loop-row
invariant-loop-row l = l.count ≡ length (large_rows l.layout (take l.row-index l.rows))
