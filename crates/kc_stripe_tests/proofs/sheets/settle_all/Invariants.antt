use Rattle.std.proofs.Common.{◌≡◌}
use Rattle.std.specs.Prelude.{All}
use Rattle.kc_stripe_tests.proofs.sheets.settle_all.Given as goal

abbrev pub invariant-loop-lock : goal.invariant-loop-lock
invariant-loop-lock g l = (l.whole.parts ≡ 2) × (l.whole.plan ≡ l.initial.whole.plan) × All (λ sum. sum.0 ≡ sum.1) l.sums.items
