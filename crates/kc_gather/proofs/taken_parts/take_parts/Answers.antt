use Rattle.std.proofs.Common.{◌≡◌, ◌∷◌, ◌++◌, [], sym, subst, ◌∙◌, rules}
use Rattle.std.proofs.lemmas.Iterator.Adapters.{YieldsList-from_vec}
use Rattle.std.proofs.lemmas.Iterator.Consumers.{YieldsList-end}
use Rattle.std.proofs.lemmas.List.{map-id}
use Rattle.kc_gather.specs.Gathering.{HavePartsOf}
use Rattle.kc_gather.proofs.Taken.{parts-none, parts-push}
use Rattle.kc_gather.proofs.taken_parts.take_parts.Goals as goal

pub loop-stripe-init : goal.loop-stripe-init
loop-stripe-init g c =
    let none : c.in_ok-taken.taken.items ≡ [] = search rules in
    subst (HavePartsOf g.S.Summary.is_part []) (sym none) (parts-none g.S.Summary.is_part)

pub loop-stripe-preserved : goal.loop-stripe-preserved
loop-stripe-preserved g c =
    let pushed : c.push.new.self.items ≡ c.loop-stripe.taken.items ++ c.in_ok-part.part ∷ [] = search rules in
    subst (HavePartsOf g.S.Summary.is_part (c.loop-stripe.yielded ++ c.in-Some.stripe ∷ [])) (sym pushed)
    (parts-push g.S.Summary.is_part c.loop-stripe.yielded c.in-Some.stripe c.loop-stripe.taken.items c.in_ok-part.part c.loop-stripe.invariant c.in_ok-part.ensures)

pub returns : goal.returns
returns g c =
    let road = YieldsList-from_vec {s = c.into_iter-stripe-iterator.result} c.args.stripes.items (search rules) (search rules) in
    let end = YieldsList-end road c.loop-stripe.yielded c.loop-stripe.stripe-iterator c.loop-stripe.yielded_by c.next.result c.next.new.self c.in-None.is c.next.ensures.steps in
    subst (λ stripes. HavePartsOf g.S.Summary.is_part stripes c.loop-stripe.taken.items) (sym (map-id c.loop-stripe.yielded) ∙ end.0) c.loop-stripe.invariant
