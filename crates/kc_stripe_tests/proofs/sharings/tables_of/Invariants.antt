use Rattle.std.proofs.Common.{◌≡◌, All, vec_len}
use Rattle.std.specs.FinMap.{empty}
use Rattle.kc_booking.specs.Setup.{key_bits}
use Rattle.kc_stripe_tests.proofs.sharings.tables_of.Given as goal

abbrev pub invariant-loop : goal.invariant-loop
invariant-loop l = (vec_len l.tables ≡ l.counter) × All (λ table. (table.counts ≡ empty) × (table.bits ≡ key_bits l.setup)) l.tables.items
