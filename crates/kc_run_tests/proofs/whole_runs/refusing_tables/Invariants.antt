use Rattle.std.proofs.Common.{◌≡◌, length, All}
use Rattle.std.specs.FinMap.{empty}
use Rattle.kc_booking.specs.Setup.{key_bits}
use Rattle.kc_run_tests.proofs.whole_runs.refusing_tables.Given as goal

abbrev pub invariant-loop : goal.invariant-loop
invariant-loop l = record {
  one_each : length l.tables.items ≡ l.counter;
  tables : All (λ table. (table.counts ≡ empty) × (table.bits ≡ key_bits l.setup)) l.tables.items;
}
