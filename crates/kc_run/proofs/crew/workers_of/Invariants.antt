use Rattle.std.proofs.Common.{◌≡◌, ◌+◌, ◌≤◌, [], vec_len}
use Rattle.std.specs.Prelude.{All}
use Rattle.kc_share.specs.Share.{share_of}
use Rattle.kc_tickets.specs.Tickets.{TicketsSeen}
use Rattle.kc_run.specs.Runs.{IsFreshSeatOf, IsReady}
use Rattle.kc_run.proofs.crew.workers_of.Given as goal

abbrev pub invariant-loop-seats : goal.invariant-loop-seats
invariant-loop-seats g l = record {
  counted : vec_len l.workers + vec_len l.seats ≡ vec_len l.fn.seats;
  some : 1 ≤ vec_len l.seats;
  share : l.share ≡ share_of l.fn.share.plan (vec_len l.seats) [];
  left : (tickets : TicketsSeen) → All (IsFreshSeatOf tickets) l.fn.seats.items → All (IsFreshSeatOf tickets) l.seats.items;
  ready : (tickets : TicketsSeen) → All (IsFreshSeatOf tickets) l.fn.seats.items → All (λ worker. IsReady tickets l.fn.share.plan worker.seat worker.share) l.workers.items;
}

abbrev pub decreases-loop-seats : goal.decreases-loop-seats
decreases-loop-seats g l = vec_len l.seats
