use Rattle.std.proofs.Common.{◌≡◌, ◌-◌, refl, sym, ap, ◌∙◌, arith}
use Rattle.kc_share.specs.Sheet.{OpeningSeen}
use Rattle.kc_share.specs.Rule.{empty_stripes}
use Rattle.kc_share.proofs.Steps.{no_words, no_entries}
use Rattle.kc_share.proofs.sheet.OpenSheet.first_share.Goals as goal

pub invariant_of-result : goal.invariant_of-result
invariant_of-result g c =
    let i = c.opening.invariant in
    let opening = c.opening.inside in
    let seen = c.opening.view_is in
    let left : opening.plan.stripes - opening.next ≡ 0 = omega (arith, c.requires, ap (λ (o : OpeningSeen). o.next) seen, ap (λ (o : OpeningSeen). o.plan.stripes) seen) in
    let booked = ap (λ m. m.0.booked) i.1 in (
      i.0,
      ap (λ m. m.1) i.1,
      ap (λ m. m.0.kept) i.1 ∙ ap (empty_stripes opening.next) left,
      sym (ap (λ m. m.0.parts) i.1),
      i.4,
      omega (arith, i.3, ap (λ m. m.0.plan.stripes) i.1),
      no_words _ _ booked refl,
      no_entries _ _ booked refl,
    )
