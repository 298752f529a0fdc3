use Rattle.std.proofs.Common.{◌∙◌, ap, arith, length, List}
use Rattle.std.proofs.lemmas.List.{length-replicate}
use Rattle.kc_table.specs.Slot.{Slot, empty_slot}
use Rattle.kc_table.proofs.SlotSteps.{counts_of-empty, sound-empty}
use Rattle.kc_table.proofs.slots.Slots.empty.Goals as goal

pub invariant_of-result : goal.invariant_of-result
invariant_of-result c =
    let empty = c.in_ok-slots.ensures.empty in
    record {
      sized = ap (λ (s : List Slot). length s) empty ∙ length-replicate _ empty_slot;
      shared = omega (arith, c.in_ok-slots.ensures.tag_bits);
      sound = sound-empty _ _ empty c.requires.few_bits c.requires.few_slots c.requires.no_wider c.requires.remainder_fits;
    }

pub returns-clause-empty : goal.returns-clause-empty
returns-clause-empty c = counts_of-empty c.args.log _ _ c.in_ok-slots.ensures.empty
