use Rattle.std.proofs.Common.{◌≡◌, ℕ, ◌+◌, ◌<◌, ◌≤◌, get_or, length, vec_capacity}
use Rattle.kc_booking.specs.AtLeast.{difference_at}
use Rattle.kc_booking.proofs.at_least.AtLeast.histogram.Given as goal

abbrev pub invariant-loop-i : goal.invariant-loop-i
invariant-loop-i l = record {
  room : 10_001 ≤ vec_capacity l.sizes;
  long : length l.sizes.items ≡ l.i;
  each : (k : ℕ) → k < l.i → get_or l.sizes.items k 0 ≡ difference_at l.self (k + 1);
}
