use Rattle.std.proofs.Common.{◌≡◌, ◌++◌, ◌^◌, ◌<◌, map, take, drop, All}
use Rattle.kc_booking.specs.Setup.{key_bits}
use Rattle.kc_booking.proofs.StripeRows.{with_word}
use Rattle.kc_booking.proofs.stripe.Stripe.rows.Given as goal

abbrev pub invariant-loop-row : goal.invariant-loop-row
invariant-loop-row g l = record {
  fit : All (λ e. e.0 < 2 ^ key_bits l.self-inside.setup) l.initial.row-items;
  turned : l.row-items ≡ map (with_word l.self-inside.setup l.tables l.self-inside.number) (take l.row-index l.initial.row-items) ++ drop l.row-index l.initial.row-items;
}
