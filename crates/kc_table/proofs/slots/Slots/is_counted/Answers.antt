use Rattle.std.proofs.Common.{◌≡◌, ◌≢◌, ◌≤◌, ◌∙◌, sym, refl, arith}
use Rattle.std.proofs.lemmas.Bool.Decides.{nat_tests}
use Rattle.kc_table.specs.Slot.{key_in}
use Rattle.kc_table.proofs.SlotSteps.{slot_held, held_read}
use Rattle.kc_table.proofs.slots.Slots.is_counted.Goals as goal

pub returns-clause-yes : goal.returns-clause-yes
returns-clause-yes c = λ is.
    let log = c.args.self.now.log in
    let some : c.tag.inside.number ≢ 0 = grind (arith, nat_tests, is) in
    let counted : 1 ≤ c.count.result = grind (arith, nat_tests, is) in (
      key_in log c.args.index c.tag-tag.result,
      c.count.result,
      held_read log c.args.self.now.slots.items c.args.index c.tag.inside.number c.tag-tag.result _ c.count.result c.tag.view_is
          c.tag-tag.ensures some refl c.count.ensures,
      counted,
    )

pub returns-clause-no : goal.returns-clause-no
returns-clause-no c = λ is key count held.
    let slot = slot_held c.args.self.now.log c.args.self.now.slots.items c.args.index key count held in
    let some : c.tag.inside.number ≢ 0 = λ none. slot.some (sym c.tag-tag.ensures ∙ sym c.tag.view_is ∙ none) in
    let zero : c.count.result ≡ 0 = grind (arith, nat_tests, is, some) in
    sym slot.count ∙ sym c.count.ensures ∙ zero
