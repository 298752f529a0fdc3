use Rattle.std.proofs.Common.{◌≡◌}
use Rattle.kc_stripe_tests.proofs.sheets.book_all.Given as goal

abbrev pub invariant-loop-batch : goal.invariant-loop-batch
invariant-loop-batch g l = (l.share.parts ≡ l.initial.share.parts) × (l.share.plan ≡ l.initial.share.plan)
