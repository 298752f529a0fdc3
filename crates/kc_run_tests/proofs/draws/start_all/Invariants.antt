use Rattle.std.proofs.Common.{◌≡◌, [], ◌+◌, vec_len}
use Rattle.std.specs.Prelude.{All}
use Rattle.kc_tickets.specs.Tickets.{SeatSeen, IsSeatOf}
use Rattle.kc_run_tests.proofs.draws.start_all.Given as goal

abbrev pub invariant-loop-seat : goal.invariant-loop-seat
invariant-loop-seat g l = record {
  own : All (IsSeatOf l.tickets) l.seats.items;
  fresh : All (λ (seat : SeatSeen). seat.drawn ≡ []) l.seats.items;
  counted : vec_len l.threads + vec_len l.seats ≡ vec_len l.fn.seats;
  promised : All (λ thread. thread.promise.0.value ≡ l.tickets) l.threads.items;
}

abbrev pub decreases-loop-seat : goal.decreases-loop-seat
decreases-loop-seat g l = vec_len l.seats
