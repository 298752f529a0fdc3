use Rattle.std.proofs.Common.{◌≡◌, ◌+◌, ◌<◌, ◌++◌, length, vec_len}
use Rattle.std.specs.Prelude.{All}
use Rattle.std.specs.List.{flat_map}
use Rattle.std.specs.List.Sorted.{IsPermutation}
use Rattle.kc_tickets.specs.Tickets.{SeatSeen, IsSeatOf}
use Rattle.kc_tickets.proofs.tickets.Tickets.close.Given as goal

abbrev pub invariant-loop-seat : goal.invariant-loop-seat
invariant-loop-seat l = record {
  table : l.whole.table_id ≡ l.fn.self.table;
  own : All (IsSeatOf l.fn.self) l.seats.items;
  heavy : 0 < l.whole.me.0.weight;
  weight : l.whole.me.0.weight + length l.seats.items ≡ l.fn.self.seats;
  drawn : IsPermutation (flat_map (λ (seat : SeatSeen). seat.drawn) l.fn.seats.items) (flat_map (λ (seat : SeatSeen). seat.drawn) l.seats.items ++ l.whole.me.0.drawn);
}

abbrev pub decreases-loop-seat : goal.decreases-loop-seat
decreases-loop-seat l = vec_len l.seats
