use Rattle.std.proofs.Common.{◌≡◌, ◌<◌, ◌^◌, refl, sym, subst}
use Rattle.kc_table.proofs.KeyCounts.{stored_by_some, stored_by_none}
use Rattle.kc_table.proofs.SlotSteps.{get_found, get_free, get_out, stands_found, found_home, found_after, free_after}
use Rattle.kc_table.proofs.SlotSteps.{out_after}
use Rattle.kc_table.proofs.quotient_table.QuotientTable.find.Goals as goal

pub returns-in-Found-clause-stored : goal.returns-in-Found-clause-stored
returns-in-Found-clause-stored c =
    rw (← c.self.view_is) (
      (λ _. stored_by_some _ _ _
          (get_found c.self.inside.slots.slots.items c.self.inside.slots.sound c.args.key c.in-Found.place
          c.in-Found.ensures.walked.0)),
      (λ _. refl),
    )

pub returns-in-Found-clause-slot : goal.returns-in-Found-clause-slot
returns-in-Found-clause-slot c =
    rw (← c.self.view_is)
    (stands_found c.self.inside.slots.slots.items c.self.inside.slots.sound c.args.key c.in-Found.place c.in-Found.ensures.walked.0)

pub returns-in-Free-clause-stored : goal.returns-in-Free-clause-stored
returns-in-Free-clause-stored c =
    rw (← c.self.view_is)
    (stored_by_none _ _ (get_free c.self.inside.slots.slots.items c.self.inside.slots.sound c.args.key
    c.in-Free.place c.in-Free.tag c.in-Free.ensures.walked.0))

pub returns-in-Crowded-clause-stored : goal.returns-in-Crowded-clause-stored
returns-in-Crowded-clause-stored c =
    rw (← c.self.view_is)
    (stored_by_none _ _ (get_out c.self.inside.slots.slots.items c.self.inside.slots.sound c.args.key
    c.in-Crowded.ensures.walked.0))

pub returns-in-Found-clause-home : goal.returns-in-Found-clause-home
returns-in-Found-clause-home c = λ full.
    found_home c.self.inside.slots.slots.items c.self.inside.slots.sound c.args.key c.in-Found.place
    (subst (λ t. c.args.key < 2 ^ t.bits) (sym c.self.view_is) c.requires) c.in-Found.ensures.walked.0
    (subst (λ t. t.log ≡ t.bits) (sym c.self.view_is) full)

pub returns-in-Found-clause-found_after : goal.returns-in-Found-clause-found_after
returns-in-Found-clause-found_after c =
    let walked = c.in-Found.ensures.walked in
    rw (← c.self.view_is)
    (found_after c.self.inside.slots.slots.items c.self.inside.slots.sound c.self.inside.max_log c.args.key _ c.in-Found.place walked.0 walked.1 walked.2)

pub returns-in-Free-clause-missed_after : goal.returns-in-Free-clause-missed_after
returns-in-Free-clause-missed_after c =
    let walked = c.in-Free.ensures.walked in
    rw (← c.self.view_is)
    (free_after c.self.inside.slots.slots.items c.self.inside.slots.sound c.self.inside.max_log c.args.key _ c.self.inside.slots.sized
    c.in-Free.place c.in-Free.tag walked.0 walked.1)

pub returns-in-Crowded-clause-missed_after : goal.returns-in-Crowded-clause-missed_after
returns-in-Crowded-clause-missed_after c =
    let walked = c.in-Crowded.ensures.walked in
    rw (← c.self.view_is)
    (out_after c.self.inside.slots.slots.items c.self.inside.slots.sound c.self.inside.max_log c.args.key _ walked.0 walked.1)
