use Rattle.std.proofs.Common.{refl, sym, ap, ◌∙◌, arith}
use Rattle.kc_share.specs.Share.{ShareSeen}
use Rattle.kc_share.proofs.Steps.{part_goes, no_words, no_entries}
use Rattle.kc_share.proofs.sheet.OpenSheet.split.Goals as goal

pub split_seat-token-requires : goal.split_seat-token-requires
split_seat-token-requires g c =
    let parts = ap (λ (h : ShareSeen). h.parts) c.share.view_is in
    (c.share.invariant.0 ∙ sym c.self.invariant.0, omega arith, part_goes _ _ _ (omega (arith, parts)))

pub invariant_of-result : goal.invariant_of-result
invariant_of-result g c =
    let new = c.split_seat-token.ensures in
    let booked = ap (λ m. m.0.booked) new.4 in (
      new.3 ∙ c.share.invariant.0,
      ap (λ m. m.1) new.4,
      ap (λ m. m.0.kept) new.4,
      sym (ap (λ m. m.0.parts) new.4),
      omega arith,
      omega (arith, c.share.invariant.5, ap (λ m. m.0.plan.stripes) new.4),
      no_words _ _ booked refl,
      no_entries _ _ booked refl,
    )
