use Rattle.std.proofs.Common.{◌≡◌, ◌+◌, ◌≤◌, vec_len}
use Rattle.std.specs.Prelude.{All}
use Rattle.kc_tickets.specs.Tickets.{IsSeatOf}
use Rattle.kc_run_tests.proofs.draws.as_many_seats_as_numbers_are_answered.Given as goal

abbrev pub invariant-loop-index : goal.invariant-loop-index
invariant-loop-index g l =
    All (IsSeatOf l.tickets) l.seats.items × (vec_len l.seats ≡ l.tickets.seats) × (l.some + l.none ≤ l.index)
