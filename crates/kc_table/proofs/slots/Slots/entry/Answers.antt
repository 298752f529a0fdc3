use Rattle.std.proofs.Common.{◌∙◌, sym, arith}
use Rattle.kc_table.proofs.SlotSteps.{slot_held, held_read}
use Rattle.kc_table.proofs.slots.Slots.entry.Goals as goal

pub returns-then-tag-eq0-clause-none : goal.returns-then-tag-eq0-clause-none
returns-then-tag-eq0-clause-none c = λ key count held.
    absurd ((slot_held c.args.self.now.log c.args.self.now.slots.items c.args.index key count held).some
    (sym c.tag-tag.ensures ∙ sym c.tag.view_is ∙ c.if-tag-eq0.true))

pub returns-then-count-eq0-clause-none : goal.returns-then-count-eq0-clause-none
returns-then-count-eq0-clause-none c = λ key count held.
    sym (slot_held c.args.self.now.log c.args.self.now.slots.items c.args.index key count held).count
    ∙ sym c.count-count.ensures ∙ c.if-count-eq0.true

pub returns-clause-some : goal.returns-clause-some
returns-clause-some c = (
  held_read c.args.self.now.log c.args.self.now.slots.items c.args.index c.tag.inside.number c.tag-tag.result c.key_at.result c.count-count.result c.tag.view_is
      c.tag-tag.ensures c.if-tag-eq0.false c.key_at.ensures.key c.count-count.ensures,
  omega arith,
)
