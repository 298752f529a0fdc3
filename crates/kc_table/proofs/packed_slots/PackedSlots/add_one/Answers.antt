use Rattle.std.proofs.Common.{◌∙◌, ◌+◌, ◌≤◌, ◌^◌, ap, arith, refl, set, pow_mono}
use Rattle.kc_table.specs.GreatCounts.{great_count}
use Rattle.kc_table.specs.Numbers.{width_of}
use Rattle.kc_table.specs.Packing.{Packed, slots_of}
use Rattle.kc_table.specs.Slot.{tag_at, slot_count}
use Rattle.kc_table.proofs.SlotNumbers.{number_there, count_under_mask, raised_fits, raised_within, written}
use Rattle.kc_table.proofs.packed_slots.PackedSlots.add_one.Goals as goal

pub get-number-requires : goal.get-number-requires
get-number-requires c = number_there _ _ _ _ _ _ c.self.view_is c.requires.in_range

pub overflow_add-number : goal.overflow_add-number
overflow_add-number c =
    let most : 2 ^ width_of c.self.inside.numbers ≤ 2 ^ 64 = pow_mono c.self.invariant.few_bits in
    record {
      fits = raised_fits c.self.inside.low _ c.self.inside.great.counts c.args.index _
          (number_there _ _ _ _ _ _ c.self.view_is c.requires.in_range) c.get-number.ensures.number _
          c.all_ones-mask.ensures c.if-below-mask.true 64
          (omega (arith, c.self.invariant.some_bits, c.self.invariant.few_bits)) (omega (arith, c.get-number.ensures.fits));
    }

pub set-requires-clause-in_range : goal.set-requires-clause-in_range
set-requires-clause-in_range c = number_there _ _ _ _ _ _ c.self.view_is c.requires.in_range

pub set-requires-clause-fits : goal.set-requires-clause-fits
set-requires-clause-fits c =
    raised_fits c.self.inside.low _ c.self.inside.great.counts c.args.index _
    (number_there _ _ _ _ _ _ c.self.view_is c.requires.in_range) c.get-number.ensures.number _ c.all_ones-mask.ensures
    c.if-below-mask.true (width_of c.self.inside.numbers) c.self.invariant.some_bits c.get-number.ensures.fits

pub returns-then-below-mask-clause-told : goal.returns-then-below-mask-clause-told
returns-then-below-mask-clause-told c =
    ap (λ n. n + 1)
    (count_under_mask c.self.inside.low _ c.self.inside.great.counts c.args.index _
    (number_there _ _ _ _ _ _ c.self.view_is c.requires.in_range) c.get-number.ensures.number _ c.all_ones-mask.ensures
    (omega (arith, c.if-below-mask.true))
    ∙ ap (λ (p : Packed). slot_count p.items c.args.index) c.self.view_is)

pub returns-then-below-mask-clause-counted : goal.returns-then-below-mask-clause-counted
returns-then-below-mask-clause-counted c =
    let low = c.self.inside.low in
    let greats = c.self.inside.great.counts in
    let below = number_there _ _ _ _ _ _ c.self.view_is c.requires.in_range in
    ap (λ ns. slots_of low ns greats) c.set.ensures.set
    ∙ written low _ greats greats c.args.index _ _ (record {
      below = below;
      here = raised_within low _ greats c.args.index _ below c.get-number.ensures.number _ c.all_ones-mask.ensures
          c.if-below-mask.true (great_count greats c.args.index);
      others = λ i apart. refl;
    })
    ∙ ap (λ (p : Packed). set p.items c.args.index
    (record { tag = tag_at p.items c.args.index; count = slot_count p.items c.args.index + 1 })) c.self.view_is
