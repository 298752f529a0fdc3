use Rattle.std.proofs.Common.{◌≡◌, ◌∙◌, sym, ap, List, Option, ℕ, Some, None}
use Rattle.kc_table.proofs.SlotSteps.{holds_found, slots_apart}
use Rattle.kc_table.proofs.Contents.{get-counts_in}
use Rattle.kc_table.proofs.Writing.{table_kept, counts_slot_put}
use Rattle.kc_table.specs.Slot.{Slot, counts_of}
use Rattle.kc_table.proofs.slots.Slots.take.Goals as goal

pub unreachable-requires : goal.unreachable-requires
unreachable-requires c =
    let rows = c.args.self.now.slots.items in
    let sound = c.args.self.now.sound in
    let never : ◌≡◌ {A = Option ℕ} (Some _) None =
    sym (get-counts_in _ c.in-Found.place c.args.key _ (slots_apart rows sound)
    (holds_found rows sound c.args.key c.in-Found.place c.in-Found.ensures.walked.0))
    ∙ c.requires.new in
    cc

pub invariant_of-self : goal.invariant_of-self
invariant_of-self c =
    table_kept c.args.self.now c.in-Free.place _ _ _ (c.in-Free.ensures.room.sound c.args.count) c.put.ensures.tag_bits c.put.ensures.put

pub returns-in-Free-clause-taken : goal.returns-in-Free-clause-taken
returns-in-Free-clause-taken c = λ _.
    ap (λ (s : List Slot). counts_of c.args.self.now.log s) c.put.ensures.put
    ∙ counts_slot_put c.args.self.now c.args.key c.in-Free.place c.in-Free.tag c.in-Free.ensures.walked.0 c.args.count
