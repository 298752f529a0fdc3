use Rattle.std.proofs.Common.{◌≡◌}
use Rattle.kc_stripe_tests.proofs.sheets.locks_of.Given as goal

abbrev pub invariant-loop-stripe : goal.invariant-loop-stripe
invariant-loop-stripe g l = (l.opening.plan ≡ l.fn.sheet.plan) × (l.opening.next ≡ l.stripe)
