use Rattle.std.proofs.Common.{◌≡◌, length, All}
use Rattle.std.specs.FinMap.{empty}
use Rattle.kc_booking.proofs.starting_tables.plain_tables.Given as goal

abbrev pub invariant-loop : goal.invariant-loop
invariant-loop l = record {
  one_each : length l.tables.items ≡ l.counter;
  bits : All (λ table. table.bits ≡ l.bits) l.tables.items;
  empty : All (λ table. table.counts ≡ empty) l.tables.items;
}
