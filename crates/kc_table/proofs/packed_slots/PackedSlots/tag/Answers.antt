use Rattle.std.proofs.Common.{◌∙◌, ap}
use Rattle.kc_table.specs.Packing.{Packed}
use Rattle.kc_table.specs.Slot.{tag_at}
use Rattle.kc_table.proofs.SlotNumbers.{number_there, tag_read}
use Rattle.kc_table.proofs.packed_slots.PackedSlots.tag.Goals as goal

pub get-requires : goal.get-requires
get-requires c = number_there _ _ _ _ _ _ c.self.view_is c.requires

pub returns : goal.returns
returns c =
    tag_read c.self.inside.low _ c.self.inside.great.counts c.args.index _
    (number_there _ _ _ _ _ _ c.self.view_is c.requires) c.get.ensures.number
    ∙ ap (λ (p : Packed). tag_at p.items c.args.index) c.self.view_is
