use Rattle.std.proofs.Common.{◌≡◌, ◌≤◌, length, take}
use Rattle.kc_tally.proofs.Parts.{all_rows}
use Rattle.kc_count_tests.proofs.tally_rows.divide_rows.Given as goal

abbrev pub invariant-loop-end : goal.invariant-loop-end
invariant-loop-end l = record {
  within : l.at ≤ length l.rows;
  so_far : all_rows l.parts.items ≡ take l.at l.rows;
}
