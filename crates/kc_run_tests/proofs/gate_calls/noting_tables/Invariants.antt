use Rattle.std.proofs.Common.{◌≡◌, length, All}
use Rattle.std.specs.FinMap.{empty}
use Rattle.kc_booking.specs.Setup.{key_bits}
use Rattle.kc_run_tests.proofs.gate_calls.noting_tables.Given as goal

abbrev pub invariant-loop-stripe : goal.invariant-loop-stripe
invariant-loop-stripe g l = record {
  one_each : length l.tables.items ≡ l.stripe;
  tables : All (λ table. (table.plain.counts ≡ empty) × (table.plain.bits ≡ key_bits l.setup)) l.tables.items;
}
