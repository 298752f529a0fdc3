use Rattle.std.proofs.Common.{◌≡◌, replicate, vec_capacity}
use Rattle.kc_table.proofs.number_rows.narrow_zeros.Given as goal

abbrev pub invariant-loop : goal.invariant-loop
invariant-loop l = record {
  zeros : l.numbers.items ≡ replicate l.counter 0;
  room : vec_capacity l.numbers ≡ l.fn.count;
}
