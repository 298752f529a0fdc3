use Rattle.std.proofs.Common.{◌≡◌, length, All}
use Rattle.std.specs.FinMap.{empty}
use Rattle.kc_table.specs.QuotientTable.{counts_in}
use Rattle.kc_booking.proofs.starting_tables.quotient_tables.Given as goal

abbrev pub invariant-loop : goal.invariant-loop
invariant-loop l = record {
  one_each : length l.tables.items ≡ l.counter;
  bits : All (λ table. table.bits ≡ l.bits) l.tables.items;
  max_log : All (λ table. table.max_log ≡ l.max_log) l.tables.items;
  log : All (λ table. table.log ≡ l.log) l.tables.items;
  empty : All (λ table. counts_in table.slots ≡ empty) l.tables.items;
}
