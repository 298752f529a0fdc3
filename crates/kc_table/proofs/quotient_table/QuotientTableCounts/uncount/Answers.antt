use Rattle.std.proofs.Common.{◌≤◌, ◌-◌, ◌∙◌, sym, ap, subst, arith}
use Rattle.kc_table.specs.Counts.{count_at}
use Rattle.kc_table.specs.QuotientTable.{counts_in, HoldsKey}
use Rattle.kc_table.specs.Reprobing.{IsFound}
use Rattle.kc_table.specs.Slots.{slot_tags}
use Rattle.kc_table.proofs.SlotSteps.{found_at}
use Rattle.kc_table.proofs.Writing.{table_kept, sound_slot_count_put, count_here, changed_put}
use Rattle.kc_table.proofs.quotient_table.QuotientTableCounts.uncount.Goals as goal
use Rattle.kc_table.proofs.quotient_table.QuotientTableCounts.uncount.Goals.{In-Some}

-- the key is at the place
found : (c : In-Some) → IsFound c.self.inside.slots.log (slot_tags c.self.inside.slots) c.args.key c.in-Some.place
found c =
    found_at c.self.inside.slots.slots.items c.self.inside.slots.sound c.args.key c.in-Some.place
    (subst (λ t. HoldsKey t.slots c.in-Some.place c.args.key) (sym c.self.view_is) c.in-Some.ensures.slot)

pub remove_one-requires-clause-some : goal.remove_one-requires-clause-some
remove_one-requires-clause-some c = λ none. absurd (omega (arith, (found (goal.at.remove_one-requires-clause-some c).In-Some).is, none))

pub remove_one-requires-clause-counted : goal.remove_one-requires-clause-counted
remove_one-requires-clause-counted c =
    subst (λ n. 1 ≤ n)
    (ap (λ t. count_at (counts_in t.slots) c.args.key) (sym c.self.view_is)
    ∙ count_here c.self.inside.slots c.args.key c.in-Some.place (found (goal.at.remove_one-requires-clause-counted c).In-Some))
    c.requires.some

pub invariant_of-self-inside : goal.invariant_of-self-inside
invariant_of-self-inside c =
    table_kept c.self.inside.slots c.in-Some.place _ _ _
    (sound_slot_count_put c.self.inside.slots c.args.key c.in-Some.place _ (found (goal.at.invariant_of-self-inside c).In-Some))
    c.remove_one.ensures.tag_bits c.remove_one.ensures.reduced

pub returns-clause-counted : goal.returns-clause-counted
returns-clause-counted c =
    rw (← c.self.view_is)
    (changed_put c.self.inside.slots c.args.key c.in-Some.place (found (goal.at.returns-clause-counted c).In-Some)
    (λ n. n - 1) _ c.remove_one.ensures.reduced)
