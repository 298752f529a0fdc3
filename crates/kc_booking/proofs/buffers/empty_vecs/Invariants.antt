use Rattle.std.proofs.Common.{◌≡◌, [], ℕ, length, vec_capacity, ◌≤◌}
use Rattle.kc_booking.specs.Round.{items_at}
use Rattle.kc_booking.proofs.buffers.empty_vecs.Given as goal

abbrev pub invariant-loop : goal.invariant-loop
invariant-loop g l = record {
  all : length l.vecs.items ≡ l.counter;
  empty : (place : ℕ) → items_at l.vecs.items place ≡ [];
  room : l.count ≤ vec_capacity l.vecs;
}
