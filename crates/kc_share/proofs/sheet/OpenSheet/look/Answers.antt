use Rattle.std.proofs.Common.{sym, ◌∙◌, arith}
use Rattle.kc_share.proofs.Steps.{all_goes, look_is_allowed, first_goes}
use Rattle.kc_share.proofs.Sharing.{can_take_in}
use Rattle.kc_share.proofs.sheet.OpenSheet.look.Goals as goal

pub split_seat-all-requires : goal.split_seat-all-requires
split_seat-all-requires g c = (c.keeper.invariant.0 ∙ sym c.self.invariant.0, omega arith, all_goes _ _ _)

pub join_seat-requires : goal.join_seat-requires
join_seat-requires g c =
    let share = c.share.invariant in
    let all = c.split_seat-all.ensures in
    can_take_in _ _ _ _ c.self.invariant.0 (omega arith) share.0 (share.3, share.4) c.keeper.invariant.0 all.3 all.4

pub load-requires : goal.load-requires
load-requires g c = (c.join_seat.ensures.0 ∙ c.share.invariant.0 ∙ sym c.self.invariant.0, omega arith, look_is_allowed _ _ _ _)

pub split_seat-requires : goal.split_seat-requires
split_seat-requires g c =
    (c.load.ensures.0 ∙ c.join_seat.ensures.0 ∙ c.share.invariant.0 ∙ sym c.self.invariant.0, omega arith, first_goes _ _ _)
