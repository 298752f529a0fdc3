use Rattle.std.proofs.Common.{◌≡◌, ◌+◌, ◌-◌, ◌<◌, ◌⊎◌, All, length}
use Rattle.kc_tickets.specs.Tickets.{IsSeatOf, IsDone, answers_of}
use Rattle.kc_booking.specs.Stripe.{position_sum}
use Rattle.kc_run.proofs.worker.Worker.draw_batches.Given as goal

abbrev pub invariant-loop-taken : goal.invariant-loop-taken
invariant-loop-taken g l = record {
  own : IsSeatOf l.job.tickets.now l.self.seat;
  more : ¬ IsDone l.self.seat;
  share : l.self.share ≡ l.initial.self.share;
  drawn : l.drawn < length l.job.batches.now;
  setup : l.round.setup ≡ l.initial.round.setup;
  answered : length (answers_of l.self.seat) ≡ length (answers_of l.initial.self.seat) + length l.round.batches;
  allowed : All g.N.Terms.may_be_booked l.round.batches;
  few : (length l.round.batches ≡ 0) ⊎ (length l.round.batches < l.job.limits.batches);
  taken : l.taken ≡ position_sum l.initial.round.setup.rule.k l.round.batches;
  small : (length l.round.batches ≡ 0) ⊎ (position_sum l.initial.round.setup.rule.k l.round.batches < l.positions);
}

abbrev pub decreases-loop-taken : goal.decreases-loop-taken
decreases-loop-taken g l = l.job.limits.batches - length l.round.batches
