use Rattle.std.proofs.Common.{◌∙◌, ◌<◌, ◌+◌, ◌≤◌, ◌^◌, ap, arith, sym, set, length, pow_mono}
use Rattle.kc_table.specs.GreatCounts.{great_count}
use Rattle.kc_table.specs.Numbers.{width_of, numbers_in}
use Rattle.kc_table.specs.Packing.{Packed, slots_of}
use Rattle.kc_table.specs.Slot.{tag_at, slot_count}
use Rattle.kc_table.proofs.SlotNumbers.{number_there, filled_fits, raised_beside, written}
use Rattle.kc_table.proofs.packed_slots.PackedSlots.add_one_beside.Goals as goal

pub get-number-requires : goal.get-number-requires
get-number-requires c = number_there _ _ _ _ _ _ c.self.view_is c.requires.in_range

pub set-requires : goal.set-requires
set-requires c =
    let below : c.args.index < length (numbers_in c.self.inside.numbers) =
    number_there _ _ _ _ _ _ c.self.view_is c.requires.in_range in
    omega (arith, c.self.invariant.places_for.enough)

pub overflow_add-number : goal.overflow_add-number
overflow_add-number c =
    let most : 2 ^ width_of c.self.inside.numbers ≤ 2 ^ 64 = pow_mono c.self.invariant.few_bits in
    record {
      fits = filled_fits c.self.inside.low _ c.self.inside.great.counts c.args.index _
          (number_there _ _ _ _ _ _ c.self.view_is c.requires.in_range) c.get-number.ensures.number _
          c.all_ones-mask.ensures 64 (omega (arith, c.self.invariant.some_bits, c.self.invariant.few_bits))
          (omega (arith, c.get-number.ensures.fits));
    }

pub set-requires-2-clause-in_range : goal.set-requires-2-clause-in_range
set-requires-2-clause-in_range c = number_there _ _ _ _ _ _ c.self.view_is c.requires.in_range

pub set-requires-2-clause-fits : goal.set-requires-2-clause-fits
set-requires-2-clause-fits c =
    filled_fits c.self.inside.low _ c.self.inside.great.counts c.args.index _
    (number_there _ _ _ _ _ _ c.self.view_is c.requires.in_range) c.get-number.ensures.number _ c.all_ones-mask.ensures
    (width_of c.self.inside.numbers) c.self.invariant.some_bits c.get-number.ensures.fits

pub returns-clause-counted : goal.returns-clause-counted
returns-clause-counted c =
    let low = c.self.inside.low in
    let after = c.set.new.self.counts in
    let below = number_there _ _ _ _ _ _ c.self.view_is c.requires.in_range in
    ap (λ ns. slots_of low ns after) c.set-2.ensures.set
    ∙ written low _ c.self.inside.great.counts after c.args.index _ _ (record {
      below = below;
      here = raised_beside low _ c.self.inside.great.counts c.args.index _ below c.get-number.ensures.number _
          c.all_ones-mask.ensures (great_count after c.args.index)
          (c.set.ensures.here ∙ ap (λ n. n + 1)
          (c.count-raised.ensures ∙ sym (ap (λ (p : Packed). slot_count p.items c.args.index) c.self.view_is)));
      others = c.set.ensures.others;
    })
    ∙ ap (λ (p : Packed). set p.items c.args.index
    (record { tag = tag_at p.items c.args.index; count = slot_count p.items c.args.index + 1 })) c.self.view_is
