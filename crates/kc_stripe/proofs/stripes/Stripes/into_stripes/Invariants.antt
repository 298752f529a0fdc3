use Rattle.std.proofs.Common.{◌≡◌, All, length}
use Rattle.kc_stripe.specs.Locked.{IsAllOf}
use Rattle.kc_stripe.proofs.stripes.Stripes.into_stripes.Given as goal

abbrev pub invariant-loop-lock : goal.invariant-loop-lock
invariant-loop-lock g l = record {
  same : l.share ≡ l.fn.share;
  counted : length l.stripes.items ≡ length l.yielded;
  whole : l.fn.share.parts ≡ l.fn.share.plan.parts → All (λ stripe. IsAllOf l.fn.share.booked stripe) l.stripes.items;
}
