use Rattle.std.proofs.Common.{◌≡◌, ◌+◌, vec_len}
use Rattle.std.specs.Prelude.{All}
use Rattle.kc_share.specs.declared.entry.Plan.{Plan}
use Rattle.kc_tickets.specs.Tickets.{TicketsSeen}
use Rattle.kc_run.specs.Runs.{HasWorked, HaveWorked}
use Rattle.kc_run.proofs.crew.join_shares.Given as goal

abbrev pub invariant-loop-seat : goal.invariant-loop-seat
invariant-loop-seat g l = record {
  counted : vec_len l.seats + vec_len l.workers ≡ vec_len l.fn.workers;
  left : (tickets : TicketsSeen) (plan : Plan) → All (λ worker. HasWorked tickets plan worker.seat worker.share) l.fn.workers.items
      → All (λ worker. HasWorked tickets plan worker.seat worker.share) l.workers.items;
  whole : (tickets : TicketsSeen) (plan : Plan) → All (λ worker. HasWorked tickets plan worker.seat worker.share) l.fn.workers.items
      → HaveWorked tickets plan l.seats.items l.share;
}

abbrev pub decreases-loop-seat : goal.decreases-loop-seat
decreases-loop-seat g l = vec_len l.workers
