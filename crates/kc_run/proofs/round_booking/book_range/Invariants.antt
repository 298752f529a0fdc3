use Rattle.std.proofs.Common.{◌≡◌, ◌≤◌, length}
use Rattle.kc_run.specs.Runs.{HaveMoreIn}
use Rattle.kc_run.proofs.round_booking.book_range.Given as goal

abbrev pub invariant-loop-stripe : goal.invariant-loop-stripe
invariant-loop-stripe g l = record {
  round : l.buffers.round ≡ l.initial.buffers.round;
  parts : l.share.parts ≡ l.initial.share.parts;
  plan : l.share.plan ≡ l.initial.share.plan;
  low : l.from ≤ l.stripe;
  high : l.stripe ≤ l.to;
  booked : HaveMoreIn l.from l.stripe (length l.initial.buffers.round.batches) l.initial.share.booked l.share.booked;
}
