use Rattle.std.proofs.Common.{◌<◌, ◌≤◌, ◌∙◌, sym, length, rules, arith}
use Rattle.kc_table.specs.QuotientTable.{Holds}
use Rattle.kc_table.specs.Slots.{slot_list}
use Rattle.kc_table.proofs.Resizing.{carried_new, carried_empty, carried_held, carried_all, carried_out, carried_narrow}
use Rattle.kc_table.proofs.SlotSteps.{slots_shifted, held_read, empty_at}
use Rattle.kc_table.proofs.slots.Slots.to_size.Goals as goal
use Rattle.kc_table.proofs.slots.Slots.to_size.Goals.{After-count}

pub loop-old_index-preserved-then-tag-eq0 : goal.loop-old_index-preserved-then-tag-eq0
loop-old_index-preserved-then-tag-eq0 c =
    let below : c.loop-old_index.old_index < length c.args.self.now.slots.items = omega (arith, c.args.self.now.sized, slots_shifted c.args.self.now) in
    carried_empty _ _ _ _ c.loop-old_index.invariant
    (empty_at c.args.self.now.log c.args.self.now.slots.items c.loop-old_index.old_index below
    (sym c.tag-tag.ensures ∙ sym c.tag.view_is ∙ c.if-tag-eq0.true))

-- the contents of the slot that was read
held : (c : After-count) → Holds (slot_list c.args.self.now) c.loop-old_index.old_index c.key_at-key.result c.count.result
held c =
    held_read c.args.self.now.log c.args.self.now.slots.items c.loop-old_index.old_index c.tag.inside.number c.tag-tag.result
    c.key_at-key.result c.count.result c.tag.view_is c.tag-tag.ensures c.if-tag-eq0.false c.key_at-key.ensures.key c.count.ensures

pub take-requires-clause-new : goal.take-requires-clause-new
take-requires-clause-new c = carried_new _ _ _ _ c.loop-old_index.invariant _ _ (held c)

pub returns-then-not-take-clause-crowded : goal.returns-then-not-take-clause-crowded
returns-then-not-take-clause-crowded c =
    carried_out _ _ _ _ c.loop-old_index.invariant _ _ (held (goal.at.returns-then-not-take-clause-crowded c).After-count)
    (c.take.ensures.out (search rules))

pub returns-then-not-take-clause-narrow : goal.returns-then-not-take-clause-narrow
returns-then-not-take-clause-narrow c =
    carried_narrow _ _ _ _ c.loop-old_index.invariant _ c.key_at-key.ensures.in_range
    (c.take.ensures.out (search rules))

pub loop-old_index-preserved : goal.loop-old_index-preserved
loop-old_index-preserved c =
    carried_held _ _ _ _ c.loop-old_index.invariant _ _ _
    (record {
      held = held (goal.at.loop-old_index-preserved c).After-count;
      same_bits = c.take.ensures.bits;
      same_log = c.take.ensures.log;
      put =
          c.take.ensures.taken (search rules);
    })

pub returns-clause-same : goal.returns-clause-same
returns-clause-same c =
    let all : length c.args.self.now.slots.items ≤ c.loop-old_index.old_index = omega (arith, c.args.self.now.sized, slots_shifted c.args.self.now) in
    carried_all _ _ _ _ c.loop-old_index.invariant all
