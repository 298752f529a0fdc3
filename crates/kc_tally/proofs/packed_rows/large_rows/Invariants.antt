use Rattle.std.proofs.Common.{◌≡◌, ◌≤◌, length, take, vec_capacity}
use Rattle.kc_tally.specs.Packing.{large_rows}
use Rattle.kc_tally.proofs.packed_rows.large_rows.Given as goal

abbrev pub invariant-loop-row : goal.invariant-loop-row
invariant-loop-row l = record {
  all : l.large.items ≡ large_rows l.layout (take l.row-index l.rows);
  room : length (large_rows l.layout l.rows) ≤ vec_capacity l.large;
  bounded : vec_capacity l.large ≤ length (large_rows l.layout l.rows);
}
