use Rattle.std.proofs.Common.{◌<◌, ◌^◌, ◌+◌, ◌∙◌, sym, ap, subst, arith, inl, inr}
use Rattle.kc_table.specs.Counts.{IsStored, count_at}
use Rattle.kc_table.specs.QuotientTable.{counts_in, IsShutOut, IsCrowded}
use Rattle.kc_table.proofs.KeyCounts.{told_new}
use Rattle.kc_table.proofs.SlotSteps.{get_free, get_out, crowded_by_out, taken_out, not_shut_found, not_shut_free, not_stored}
use Rattle.kc_table.proofs.SlotSteps.{found_after, free_after, out_after}
use Rattle.kc_table.proofs.Writing.{table_kept, sound_slot_count_put, count_here, changed_put, added_put}
use Rattle.kc_table.proofs.quotient_table.QuotientTable.count_by_one_find.Goals as goal

pub add_one-requires-clause-some : goal.add_one-requires-clause-some
add_one-requires-clause-some c = λ none. absurd (omega (arith, c.in-Found.ensures.walked.0.is, none))

pub add_one-requires-clause-in_range : goal.add_one-requires-clause-in_range
add_one-requires-clause-in_range c =
    let inside : c.in-Found.place < 2 ^ c.self.inside.slots.log =
    c.self.inside.slots.sound.inside c.in-Found.place
    (λ none. absurd (omega (arith, c.in-Found.ensures.walked.0.is, none))) in
    omega (arith, inside, c.self.inside.slots.sized)

pub add_one-requires-clause-room : goal.add_one-requires-clause-room
add_one-requires-clause-room c =
    subst (λ n. n < 2 ^ 62)
    (ap (λ t. count_at (counts_in t.slots) c.args.key) (sym c.self.view_is)
    ∙ count_here c.self.inside.slots c.args.key c.in-Found.place c.in-Found.ensures.walked.0)
    c.requires.room

pub invariant_of-self-inside : goal.invariant_of-self-inside
invariant_of-self-inside c =
    table_kept c.self.inside.slots c.in-Found.place _ _ _
    (sound_slot_count_put c.self.inside.slots c.args.key c.in-Found.place _ c.in-Found.ensures.walked.0)
    c.add_one.ensures.tag_bits c.add_one.ensures.counted

pub invariant_of-self-inside-in-Free : goal.invariant_of-self-inside-in-Free
invariant_of-self-inside-in-Free c =
    table_kept c.self.inside.slots c.in-Free.place _ _ _ (c.in-Free.ensures.room.sound 1) c.put.ensures.tag_bits c.put.ensures.put

pub returns-in-Found-clause-new_count : goal.returns-in-Found-clause-new_count
returns-in-Found-clause-new_count c =
    rw (← c.self.view_is)
    (c.add_one.ensures.told ∙ ap (λ n. n + 1)
    (sym (count_here c.self.inside.slots c.args.key c.in-Found.place c.in-Found.ensures.walked.0)))

pub returns-in-Found-clause-counted : goal.returns-in-Found-clause-counted
returns-in-Found-clause-counted c =
    rw (← c.self.view_is)
    (changed_put c.self.inside.slots c.args.key c.in-Found.place c.in-Found.ensures.walked.0 (λ n. n + 1) _
    c.add_one.ensures.counted)

pub returns-in-Found-clause-placed : goal.returns-in-Found-clause-placed
returns-in-Found-clause-placed c = λ shut.
    not_shut_found c.self.inside.slots.slots.items c.self.inside.slots.sound c.args.key c.in-Found.place
    c.in-Found.ensures.walked.0 (subst (λ t. IsShutOut t c.args.key) (sym c.self.view_is) shut)

pub returns-in-Found-clause-one_find : goal.returns-in-Found-clause-one_find
returns-in-Found-clause-one_find c =
    let walked = c.in-Found.ensures.walked in
    rw (← c.self.view_is) (inl (
      c.in-Found.place,
      found_after c.self.inside.slots.slots.items c.self.inside.slots.sound c.self.inside.max_log c.args.key _
          c.in-Found.place walked.0 walked.1 walked.2,
    ))

pub returns-in-Free-clause-new_count : goal.returns-in-Free-clause-new_count
returns-in-Free-clause-new_count c =
    rw (← c.self.view_is)
    (told_new _ c.args.key (get_free c.self.inside.slots.slots.items c.self.inside.slots.sound c.args.key
    c.in-Free.place c.in-Free.tag c.in-Free.ensures.walked.0))

pub returns-in-Free-clause-counted : goal.returns-in-Free-clause-counted
returns-in-Free-clause-counted c =
    rw (← c.self.view_is)
    (added_put c.self.inside.slots c.args.key c.in-Free.place c.in-Free.tag c.in-Free.ensures.walked.0 _ c.put.ensures.put)

pub returns-in-Free-clause-placed : goal.returns-in-Free-clause-placed
returns-in-Free-clause-placed c = λ shut.
    not_shut_free c.self.inside.slots.slots.items c.self.inside.slots.sound c.args.key c.in-Free.place c.in-Free.tag
    c.in-Free.ensures.walked.0 (subst (λ t. IsShutOut t c.args.key) (sym c.self.view_is) shut)

pub returns-in-Free-clause-one_find : goal.returns-in-Free-clause-one_find
returns-in-Free-clause-one_find c =
    let walked = c.in-Free.ensures.walked in
    rw (← c.self.view_is)
    (inr (free_after c.self.inside.slots.slots.items c.self.inside.slots.sound c.self.inside.max_log c.args.key _
    c.self.inside.slots.sized c.in-Free.place c.in-Free.tag walked.0 walked.1))

pub returns-in-Crowded-clause-known : goal.returns-in-Crowded-clause-known
returns-in-Crowded-clause-known c = λ stored.
    absurd (not_stored _ c.args.key
    (get_out c.self.inside.slots.slots.items c.self.inside.slots.sound c.args.key c.in-Crowded.ensures.walked.0)
    (subst (λ t. IsStored (counts_in t.slots) c.args.key) (sym c.self.view_is) stored))

pub returns-in-Crowded-clause-shut_out : goal.returns-in-Crowded-clause-shut_out
returns-in-Crowded-clause-shut_out c =
    subst (λ t. IsShutOut t c.args.key) c.self.view_is
    (taken_out c.self.inside.slots.slots.items c.self.inside.slots.sound c.args.key c.in-Crowded.ensures.walked.0)

pub returns-in-Crowded-clause-crowded : goal.returns-in-Crowded-clause-crowded
returns-in-Crowded-clause-crowded c =
    subst (λ t. IsCrowded (counts_in t.slots) t.log c.args.key) c.self.view_is
    (crowded_by_out c.self.inside.slots.slots.items c.self.inside.slots.sound c.args.key c.in-Crowded.ensures.walked.0)

pub returns-in-Crowded-clause-one_find : goal.returns-in-Crowded-clause-one_find
returns-in-Crowded-clause-one_find c =
    let walked = c.in-Crowded.ensures.walked in
    rw (← c.self.view_is)
    (inr (out_after c.self.inside.slots.slots.items c.self.inside.slots.sound c.self.inside.max_log c.args.key _
    walked.0 walked.1))
