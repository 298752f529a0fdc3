use Rattle.std.proofs.Common.{◌∙◌, ◌<◌, ◌≤◌, ◌-◌, ap, arith, refl, sym, set, length, subst}
use Rattle.kc_table.specs.GreatCounts.{great_count}
use Rattle.kc_table.specs.Numbers.{numbers_in}
use Rattle.kc_table.specs.Packing.{Packed, slot_of, slots_of}
use Rattle.kc_table.specs.Slot.{tag_at, slot_count}
use Rattle.kc_table.proofs.SlotNumbers.{number_there, count_at_mask, number_some, lowered_within, lowered_beside, written}
use Rattle.kc_table.proofs.SlotNumbers.{written_beside}
use Rattle.kc_table.proofs.packed_slots.PackedSlots.remove_one.Goals as goal

pub get-number-requires : goal.get-number-requires
get-number-requires c = number_there _ _ _ _ _ _ c.self.view_is c.requires.in_range

pub overflow_sub-number : goal.overflow_sub-number
overflow_sub-number c =
    number_some c.self.inside.low _ c.self.inside.great.counts c.args.index _
    (number_there _ _ _ _ _ _ c.self.view_is c.requires.in_range) c.get-number.ensures.number _ c.all_ones-mask.ensures
    c.if-number-mask.true
    (subst (λ (p : Packed). 1 ≤ slot_count p.items c.args.index) (sym c.self.view_is) c.requires.counted)

pub set-requires-clause-in_range : goal.set-requires-clause-in_range
set-requires-clause-in_range c = number_there _ _ _ _ _ _ c.self.view_is c.requires.in_range

pub overflow_sub-lowered : goal.overflow_sub-lowered
overflow_sub-lowered c =
    let beside = count_at_mask c.self.inside.low _ c.self.inside.great.counts c.args.index _
    (number_there _ _ _ _ _ _ c.self.view_is c.requires.in_range) c.get-number.ensures.number _ c.all_ones-mask.ensures
    c.if-number-mask.false in
    subst (λ n. 1 ≤ n) (sym (c.count-lowered.ensures ∙ beside))
    (subst (λ (p : Packed). 1 ≤ slot_count p.items c.args.index) (sym c.self.view_is) c.requires.counted)

pub set-requires-else-number-mask : goal.set-requires-else-number-mask
set-requires-else-number-mask c =
    let below : c.args.index < length (numbers_in c.self.inside.numbers) =
    number_there _ _ _ _ _ _ c.self.view_is c.requires.in_range in
    omega (arith, c.self.invariant.places_for.enough)

pub returns-then-number-mask-clause-reduced : goal.returns-then-number-mask-clause-reduced
returns-then-number-mask-clause-reduced c =
    let low = c.self.inside.low in
    let greats = c.self.inside.great.counts in
    let below = number_there _ _ _ _ _ _ c.self.view_is c.requires.in_range in
    ap (λ ns. slots_of low ns greats) c.set.ensures.set
    ∙ written low _ greats greats c.args.index _ _ (record {
      below = below;
      here = lowered_within low _ greats c.args.index _ below c.get-number.ensures.number _ c.all_ones-mask.ensures
          c.if-number-mask.true
          (subst (λ (p : Packed). 1 ≤ slot_count p.items c.args.index) (sym c.self.view_is) c.requires.counted)
          (great_count greats c.args.index);
      others = λ i apart. refl;
    })
    ∙ ap (λ (p : Packed). set p.items c.args.index
    (record { tag = tag_at p.items c.args.index; count = slot_count p.items c.args.index - 1 })) c.self.view_is

pub returns-else-number-mask-clause-reduced : goal.returns-else-number-mask-clause-reduced
returns-else-number-mask-clause-reduced c =
    let low = c.self.inside.low in
    let after = c.set-else-number-mask.new.self.counts in
    let below = number_there _ _ _ _ _ _ c.self.view_is c.requires.in_range in
    written_beside low _ c.self.inside.great.counts after c.args.index _ (record {
      below = below;
      here = ap (λ n. slot_of low n (great_count after c.args.index)) (sym c.get-number.ensures.number)
          ∙ lowered_beside low _ c.self.inside.great.counts c.args.index _ below c.get-number.ensures.number _
          c.all_ones-mask.ensures c.if-number-mask.false (great_count after c.args.index)
          (c.set-else-number-mask.ensures.here ∙ ap (λ n. n - 1) c.count-lowered.ensures);
      others = c.set-else-number-mask.ensures.others;
    })
    ∙ ap (λ (p : Packed). set p.items c.args.index
    (record { tag = tag_at p.items c.args.index; count = slot_count p.items c.args.index - 1 })) c.self.view_is
