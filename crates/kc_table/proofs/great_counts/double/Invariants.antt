use Rattle.std.proofs.Common.{◌≡◌, replicate, vec_capacity}
use Rattle.kc_table.proofs.great_counts.double.Given as goal

abbrev pub invariant-loop : goal.invariant-loop
invariant-loop l = record {
  zeros : l.heads.items ≡ replicate l.counter 0;
  room : vec_capacity l.heads ≡ vec_capacity l.fn.heads;
}
