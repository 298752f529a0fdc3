use Rattle.std.proofs.Common.{◌<◌, sym, ap, ◌∙◌, arith}
use Rattle.kc_share.specs.Sheet.{OpeningSeen}
use Rattle.kc_share.proofs.Steps.{first_goes, others_left}
use Rattle.kc_share.proofs.sheet.OpenSheet.next_keeper.Goals as goal

pub split_seat-token-requires : goal.split_seat-token-requires
split_seat-token-requires g c = (c.opening.invariant.0 ∙ sym c.self.invariant.0, omega arith, first_goes _ _ _)

pub invariant_of-opening : goal.invariant_of-opening
invariant_of-opening g c =
    let more : c.opening.inside.next < c.opening.inside.plan.stripes = omega (arith, ap (λ (o : OpeningSeen). o.next) c.opening.view_is, ap (λ (o : OpeningSeen). o.plan.stripes) c.opening.view_is) in
    let i = c.opening.invariant in
    (c.split_seat-token.ensures.0 ∙ i.0, c.split_seat-token.ensures.2 ∙ others_left c.opening.inside.plan c.opening.inside.next c.opening.inside.token.me i.1 more, omega arith, i.3, i.4)
