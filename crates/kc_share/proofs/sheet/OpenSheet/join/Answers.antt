use Rattle.std.proofs.Common.{◌++◌, sym, ap, ◌∙◌, arith}
use Rattle.kc_share.proofs.Steps.{both_join, look_is_allowed}
use Rattle.kc_share.proofs.Sharing.{IsJoinedLook, both_looked, words_have_room, entries_have_room, words_added, entries_added}
use Rattle.kc_share.proofs.sheet.OpenSheet.join.Goals as goal

pub join_seat-requires : goal.join_seat-requires
join_seat-requires g c =
    let share = c.share.invariant in
    let other = c.other.invariant in
    (share.0 ∙ sym c.self.invariant.0, other.0 ∙ sym c.self.invariant.0, other.1, omega arith, both_join _ _ _ _ _ (omega (arith, share.3, share.4)))

pub load-requires : goal.load-requires
load-requires g c = (c.join_seat.ensures.0 ∙ c.share.invariant.0 ∙ sym c.self.invariant.0, omega arith, look_is_allowed _ _ _ _)

-- the share's token was joined with the other one, and then looked through
joined : (g : _) (c : goal.After-words-2-1 g) → IsJoinedLook c.share.inside.token.me.0 c.other.inside.token.me.0 c.share.inside.token.me.1 c.join_seat.new.seat.me c.load.new.seat.me
joined g c = record { empty = c.share.invariant.1; joins = c.join_seat.ensures.2; look = c.load.ensures.2 }

pub add_each-requires : goal.add_each-requires
add_each-requires g c = words_have_room (joined g c) c.share.inside.words c.other.inside.words c.share.invariant.6 c.other.invariant.6

pub add_each-requires-2 : goal.add_each-requires-2
add_each-requires-2 g c =
    entries_have_room (joined g c.before.before.before) c.share.inside.entries c.other.inside.entries c.share.invariant.7 c.other.invariant.7

pub invariant_of-share : goal.invariant_of-share
invariant_of-share g c =
    let share = c.share.invariant in
    let other = c.other.invariant in
    let joined = joined g c.before.before.before.before in
    let looked = both_looked joined in (
      c.load.ensures.0 ∙ c.join_seat.ensures.0 ∙ share.0,
      ap (λ m. m.1) looked,
      ap (λ m. m.0.kept) looked ∙ ap (λ them. them ++ c.other.inside.token.me.0.kept) share.2 ∙ other.2,
      omega (arith, share.3, other.3, ap (λ m. m.0.parts) looked),
      omega (arith, share.4),
      omega (arith, share.5, ap (λ m. m.0.plan.stripes) looked),
      words_added joined c.share.inside.words c.other.inside.words _ share.6 other.6 c.add_each.ensures,
      entries_added joined c.share.inside.entries c.other.inside.entries _ share.7 other.7 c.add_each-2.ensures,
    )
