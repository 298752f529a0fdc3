use Rattle.std.proofs.Common.{◌≡◌}
use Rattle.kc_stripe_tests.proofs.sheets.book_everywhere.Given as goal

abbrev pub invariant-loop-lock : goal.invariant-loop-lock
invariant-loop-lock g l = (l.share.parts ≡ l.initial.share.parts) × (l.share.plan ≡ l.initial.share.plan)
