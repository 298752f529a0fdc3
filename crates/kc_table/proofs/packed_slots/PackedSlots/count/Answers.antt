use Rattle.std.proofs.Common.{◌∙◌, ap}
use Rattle.kc_table.specs.Packing.{Packed}
use Rattle.kc_table.specs.Slot.{slot_count}
use Rattle.kc_table.proofs.SlotNumbers.{number_there, count_under_mask, count_at_mask}
use Rattle.kc_table.proofs.packed_slots.PackedSlots.count.Goals as goal

pub get-requires : goal.get-requires
get-requires c = number_there _ _ _ _ _ _ c.self.view_is c.requires

pub returns-then-below-mask : goal.returns-then-below-mask
returns-then-below-mask c =
    count_under_mask c.self.inside.low _ c.self.inside.great.counts c.args.index _
    (number_there _ _ _ _ _ _ c.self.view_is c.requires) c.get.ensures.number _ c.all_ones-mask.ensures c.if-below-mask.true
    ∙ ap (λ (p : Packed). slot_count p.items c.args.index) c.self.view_is

pub returns-else-below-mask : goal.returns-else-below-mask
returns-else-below-mask c =
    c.count.ensures
    ∙ count_at_mask c.self.inside.low _ c.self.inside.great.counts c.args.index _
    (number_there _ _ _ _ _ _ c.self.view_is c.requires) c.get.ensures.number _ c.all_ones-mask.ensures
    c.if-below-mask.false
    ∙ ap (λ (p : Packed). slot_count p.items c.args.index) c.self.view_is
