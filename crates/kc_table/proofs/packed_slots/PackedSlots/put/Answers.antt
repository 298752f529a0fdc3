use Rattle.std.proofs.Common.{◌∙◌, ◌<◌, ◌+◌, ◌-◌, ◌*◌, ◌%◌, ◌^◌, ap, arith, refl, set, length}
use Rattle.kc_table.specs.GreatCounts.{great_count}
use Rattle.kc_table.specs.Numbers.{width_of, numbers_in}
use Rattle.kc_table.specs.Packing.{Packed, slot_of, slots_of}
use Rattle.kc_table.proofs.SlotNumbers.{number_there, number_put, IsNumberOf, slot_put_within, slot_put_beside, written}
use Rattle.kc_table.proofs.packed_slots.PackedSlots.put.Goals as goal
use Rattle.kc_table.proofs.packed_slots.PackedSlots.put.Goals.{Then-count-mask, Else-count-mask}

-- the number that is put, if the count is in its low bits, and if they are all 1
within : (c : Then-count-mask) → IsNumberOf c.self.inside.low (width_of c.self.inside.numbers) c.args.tag c.args.count
    (c.tag.inside.number * 2 ^ c.self.inside.low % 2 ^ 64 + c.args.count)
within c =
    number_put c.self.inside.low (width_of c.self.inside.numbers) _ c.args.self.now c.self.view_is
    (record { some_bits = c.self.invariant.some_bits; few_bits = c.self.invariant.few_bits }) c.args.tag c.tag.inside.number
    c.args.count c.all_ones-mask.result c.requires.fits c.tag.view_is c.all_ones-mask.ensures
    (omega (arith, c.if-count-mask.true))

beside : (c : Else-count-mask) → IsNumberOf c.self.inside.low (width_of c.self.inside.numbers) c.args.tag
    c.all_ones-mask.result (c.tag.inside.number * 2 ^ c.self.inside.low % 2 ^ 64 + c.all_ones-mask.result)
beside c =
    number_put c.self.inside.low (width_of c.self.inside.numbers) _ c.args.self.now c.self.view_is
    (record { some_bits = c.self.invariant.some_bits; few_bits = c.self.invariant.few_bits }) c.args.tag c.tag.inside.number
    c.all_ones-mask.result c.all_ones-mask.result c.requires.fits c.tag.view_is c.all_ones-mask.ensures (omega arith)

pub overflow_add-above : goal.overflow_add-above
overflow_add-above c = record { fits = (within (goal.at.overflow_add-above c).Then-count-mask).fits_64 }

pub set-requires-clause-in_range : goal.set-requires-clause-in_range
set-requires-clause-in_range c = number_there _ _ _ _ _ _ c.self.view_is c.requires.in_range

pub set-requires-clause-fits : goal.set-requires-clause-fits
set-requires-clause-fits c = (within (goal.at.set-requires-clause-fits c).Then-count-mask).fits

pub set-requires-else-count-mask : goal.set-requires-else-count-mask
set-requires-else-count-mask c =
    let below : c.args.index < length (numbers_in c.self.inside.numbers) =
    number_there _ _ _ _ _ _ c.self.view_is c.requires.in_range in
    omega (arith, c.self.invariant.places_for.enough)

pub overflow_add-above-else-count-mask : goal.overflow_add-above-else-count-mask
overflow_add-above-else-count-mask c =
    record { fits = (beside (goal.at.overflow_add-above-else-count-mask c).Else-count-mask).fits_64 }

pub set-requires-else-count-mask-2-clause-in_range :
    goal.set-requires-else-count-mask-2-clause-in_range
set-requires-else-count-mask-2-clause-in_range c = number_there _ _ _ _ _ _ c.self.view_is c.requires.in_range

pub set-requires-else-count-mask-2-clause-fits : goal.set-requires-else-count-mask-2-clause-fits
set-requires-else-count-mask-2-clause-fits c =
    (beside (goal.at.set-requires-else-count-mask-2-clause-fits c).Else-count-mask).fits

pub returns-then-count-mask-clause-put : goal.returns-then-count-mask-clause-put
returns-then-count-mask-clause-put c =
    let low = c.self.inside.low in
    let greats = c.self.inside.great.counts in
    let few : c.args.count < 2 ^ low - 1 = omega (arith, c.if-count-mask.true, c.all_ones-mask.ensures) in
    ap (λ ns. slots_of low ns greats) c.set.ensures.set
    ∙ written low _ greats greats c.args.index _ (record { tag = c.args.tag; count = c.args.count }) (record {
      below = number_there _ _ _ _ _ _ c.self.view_is c.requires.in_range;
      here = ap (λ n. slot_of low n (great_count greats c.args.index))
          (within (goal.at.returns-then-count-mask-clause-put c).Then-count-mask).is
          ∙ slot_put_within low c.args.tag c.args.count (great_count greats c.args.index) few;
      others = λ i apart. refl;
    })
    ∙ ap (λ (p : Packed). set p.items c.args.index (record { tag = c.args.tag; count = c.args.count })) c.self.view_is

pub returns-else-count-mask-clause-put : goal.returns-else-count-mask-clause-put
returns-else-count-mask-clause-put c =
    let low = c.self.inside.low in
    let after = c.set-else-count-mask.new.self.counts in
    let great = great_count after c.args.index in
    ap (λ ns. slots_of low ns after) c.set-else-count-mask-2.ensures.set
    ∙ written low _ c.self.inside.great.counts after c.args.index _ (record { tag = c.args.tag; count = c.args.count }) (record {
      below = number_there _ _ _ _ _ _ c.self.view_is c.requires.in_range;
      here = ap (λ n. slot_of low n great) (beside (goal.at.returns-else-count-mask-clause-put c).Else-count-mask).is
          ∙ ap (λ n. slot_of low (c.args.tag * 2 ^ low + n) great) c.all_ones-mask.ensures
          ∙ slot_put_beside low c.args.tag great
          ∙ ap (λ n. record { tag = c.args.tag; count = n }) c.set-else-count-mask.ensures.here;
      others = c.set-else-count-mask.ensures.others;
    })
    ∙ ap (λ (p : Packed). set p.items c.args.index (record { tag = c.args.tag; count = c.args.count })) c.self.view_is
