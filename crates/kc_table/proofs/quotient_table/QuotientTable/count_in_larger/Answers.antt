use Rattle.std.proofs.Common.{◌<◌, ◌^◌, ◌∙◌, refl, sym, subst}
use Rattle.kc_table.specs.QuotientTable.{IsShutOut}
use Rattle.kc_table.specs.Reprobing.{IsOut}
use Rattle.kc_table.specs.Slots.{slot_tags}
use Rattle.kc_table.proofs.KeyCounts.{told_new, added_new}
use Rattle.kc_table.proofs.Resizing.{small_by_out}
use Rattle.kc_table.proofs.SlotSteps.{get_out, out_by_others}
use Rattle.kc_table.proofs.quotient_table.QuotientTable.count_in_larger.Goals as goal
use Rattle.kc_table.proofs.quotient_table.QuotientTable.count_in_larger.Goals.{After-self}

-- no walk finds a place for the key
out : (c : After-self) → IsOut c.self.inside.slots.log (slot_tags c.self.inside.slots) c.args.key
out c =
    out_by_others c.self.inside.slots.slots.items c.self.inside.slots.sound c.args.key
    (subst (λ t. IsShutOut t c.args.key) (sym c.self.view_is) c.requires.shut_out)

pub to_larger_with-requires-clause-new : goal.to_larger_with-requires-clause-new
to_larger_with-requires-clause-new c =
    get_out c.self.inside.slots.slots.items c.self.inside.slots.sound c.args.key
    (out (goal.at.to_larger_with-requires-clause-new c).After-self)

pub to_larger_with-requires-clause-tight : goal.to_larger_with-requires-clause-tight
to_larger_with-requires-clause-tight c =
    small_by_out _ _ c.args.key _ c.self.inside.slots (record { same_bits = refl; same_log = refl; same_counts = refl })
    (subst (λ t. c.args.key < 2 ^ t.bits) (sym c.self.view_is) c.requires.in_range)
    (out (goal.at.to_larger_with-requires-clause-tight c).After-self)

pub returns-clause-new_count : goal.returns-clause-new_count
returns-clause-new_count c =
    rw (← c.self.view_is)
    (told_new _ c.args.key (get_out c.self.inside.slots.slots.items c.self.inside.slots.sound c.args.key
    (out (goal.at.returns-clause-new_count c).After-self)))

pub returns-clause-counted : goal.returns-clause-counted
returns-clause-counted c =
    rw (← c.self.view_is)
    (c.in_ok-self-inside.ensures.taken
    ∙ added_new _ c.args.key (get_out c.self.inside.slots.slots.items c.self.inside.slots.sound c.args.key
    (out (goal.at.returns-clause-counted c).After-self)))

pub returns-clause-smallest : goal.returns-clause-smallest
returns-clause-smallest c = rw (← c.self.view_is) c.in_ok-self-inside.ensures.smallest
