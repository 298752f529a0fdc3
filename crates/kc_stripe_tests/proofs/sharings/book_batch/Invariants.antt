use Rattle.std.proofs.Common.{◌≡◌}
use Rattle.kc_stripe_tests.proofs.sharings.book_batch.Given as goal

abbrev pub invariant-loop-cut : goal.invariant-loop-cut
invariant-loop-cut g l = (l.share.parts ≡ l.initial.share.parts) × (l.share.plan ≡ l.initial.share.plan)
