use Rattle.std.proofs.Common.{◌≡◌, ◌≤◌, length, map, take, vec_capacity}
use Rattle.kc_tally.specs.Packing.{packed_row}
use Rattle.kc_tally.proofs.packed_rows.packed_words.Given as goal

abbrev pub invariant-loop-row : goal.invariant-loop-row
invariant-loop-row l = record {
  all : l.packed.items ≡ map (packed_row l.layout) (take l.row-index l.rows);
  room : length l.rows ≤ vec_capacity l.packed;
  bounded : vec_capacity l.packed ≤ length l.rows;
}
