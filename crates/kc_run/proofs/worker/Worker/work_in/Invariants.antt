use Rattle.std.proofs.Common.{◌≡◌, [], ℕ, ◌-◌, ◌<◌, length}
use Rattle.kc_share.specs.Share.{entry_total_in}
use Rattle.kc_tickets.specs.Tickets.{IsSeatOf, answers_of}
use Rattle.kc_run.proofs.worker.Worker.work_in.Given as goal

abbrev pub invariant-loop-self : goal.invariant-loop-self
invariant-loop-self g l = record {
  cut_up : l.buffers.round.setup ≡ l.job.stripes.now.setup;
  none : l.buffers.round.batches ≡ [];
  own : IsSeatOf l.job.tickets.now l.self.seat;
  one_part : l.self.share.parts ≡ 1;
  same_plan : l.self.share.plan ≡ l.job.plan;
  booked : (stripe : ℕ) → stripe < l.job.plan.stripes → entry_total_in stripe l.self.share.booked ≡ length (answers_of l.self.seat);
}

abbrev pub decreases-loop-self : goal.decreases-loop-self
decreases-loop-self g l = l.job.tickets.now.limit - length (answers_of l.self.seat)
