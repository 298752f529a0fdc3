use Rattle.std.proofs.Common.{◌∙◌, sym, subst, inl, inr}
use Rattle.kc_table.specs.QuotientTable.{HoldsKey}
use Rattle.kc_table.proofs.KeyCounts.{count_at-some}
use Rattle.kc_table.proofs.SlotSteps.{get_found, found_at}
use Rattle.kc_table.proofs.quotient_table.QuotientTable.get_by_one_find.Goals as goal

pub returns-in-Some-clause-count : goal.returns-in-Some-clause-count
returns-in-Some-clause-count c =
    let found =
    found_at c.self.inside.slots.slots.items c.self.inside.slots.sound c.args.key c.in-Some.place
    (subst (λ t. HoldsKey t.slots c.in-Some.place c.args.key) (sym c.self.view_is) c.in-Some.ensures.slot) in
    rw (← c.self.view_is) (c.count.ensures
    ∙ sym (count_at-some _ c.args.key _
    (get_found c.self.inside.slots.slots.items c.self.inside.slots.sound c.args.key c.in-Some.place found)))

pub returns-in-Some-clause-one_find : goal.returns-in-Some-clause-one_find
returns-in-Some-clause-one_find c = inl (c.in-Some.place, c.in-Some.ensures.found_after)

pub returns-in-None-clause-one_find : goal.returns-in-None-clause-one_find
returns-in-None-clause-one_find c = inr c.in-None.ensures.missed_after
