use Rattle.std.proofs.Common.{◌≡◌, ◌∙◌, ap, [], ◌∷◌, length, length-append, rules, subst, sym, arith}
use Rattle.std.proofs.lemmas.List.Elements.{All-push, All-same}
use Rattle.kc_share.specs.Share.{ShareSeen}
use Rattle.kc_stripe.specs.Locked.{IsAllOf}
use Rattle.std.proofs.lemmas.Iterator.Adapters.{YieldsList-from_vec}
use Rattle.std.proofs.lemmas.Iterator.Consumers.{YieldsList-end}
use Rattle.kc_stripe.proofs.LockedLemmas.{all_of}
use Rattle.kc_stripe.proofs.stripes.Stripes.into_stripes.Goals as goal

pub returns-clause-count : goal.returns-clause-count
returns-clause-count g c =
    let end = YieldsList-end (YieldsList-from_vec {s = c.into_iter-lock-iterator.result} c.self.inside.locks.items (search rules) (search rules)) c.loop-lock.yielded c.loop-lock.lock-iterator c.loop-lock.yielded_by c.next.result c.next.new.self c.in-None.is c.next.ensures.steps in
    let many : length c.self.inside.locks.items ≡ length c.loop-lock.stripes.items = sym (c.loop-lock.invariant.counted ∙ end.1) in
    search rules

pub loop-lock-preserved : goal.loop-lock-preserved
loop-lock-preserved g c =
    let i = c.loop-lock.invariant in
    let items = c.in_ok-push.ensures.items in
    let booked : ShareSeen → Type 0 = λ share. IsAllOf share.booked c.stripe.inside.stripe in
    record {
      same = c.look.ensures.share ∙ i.same;
      counted = omega (arith, ap length items, length-append c.loop-lock.stripes.items (c.stripe.inside.stripe ∷ []), length-append c.loop-lock.yielded (c.in-Some.lock ∷ []), i.counted);
      whole = λ all. All-same (λ stripe. IsAllOf c.args.share.booked stripe) c.push.new.self.items _ items
          (All-push (λ stripe. IsAllOf c.args.share.booked stripe) c.loop-lock.stripes.items c.stripe.inside.stripe (i.whole all)
          (subst booked i.same
          (all_of c.stripe.inside.stripe c.stripe.inside.keeper c.stripe.invariant.on_sheet c.loop-lock.share.booked
          (c.look.ensures.whole (subst (λ (share : ShareSeen). share.parts ≡ share.plan.parts) (sym i.same) all)))));
    }
