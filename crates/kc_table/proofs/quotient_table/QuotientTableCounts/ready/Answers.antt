use Rattle.std.proofs.Common.{◌<◌, ◌^◌, ◌∙◌, refl, sym, subst}
use Rattle.kc_table.specs.Counts.{IsStored}
use Rattle.kc_table.specs.QuotientTable.{counts_in, IsShutOut, IsCrowded}
use Rattle.kc_table.proofs.KeyCounts.{readied_new}
use Rattle.kc_table.proofs.Resizing.{small_by_out}
use Rattle.kc_table.proofs.SlotSteps.{get_free, get_out, crowded_by_out, taken_out, not_shut_found, not_shut_free, not_stored}
use Rattle.kc_table.proofs.Writing.{table_kept, readied_found, readied_put}
use Rattle.kc_table.proofs.quotient_table.QuotientTableCounts.ready.Goals as goal

pub invariant_of-self-inside : goal.invariant_of-self-inside
invariant_of-self-inside c =
    table_kept c.self.inside.slots c.in-Free.place _ _ _ (c.in-Free.ensures.room.sound 0) c.put.ensures.tag_bits c.put.ensures.put

pub to_larger_with-requires-clause-new : goal.to_larger_with-requires-clause-new
to_larger_with-requires-clause-new c =
    get_out c.self.inside.slots.slots.items c.self.inside.slots.sound c.args.key c.in-Crowded.ensures.walked.0

pub to_larger_with-requires-clause-tight : goal.to_larger_with-requires-clause-tight
to_larger_with-requires-clause-tight c =
    small_by_out _ _ c.args.key _ c.self.inside.slots (record { same_bits = refl; same_log = refl; same_counts = refl })
    (subst (λ t. c.args.key < 2 ^ t.bits) (sym c.self.view_is) c.requires) c.in-Crowded.ensures.walked.0

pub returns-in-Found-clause-stored : goal.returns-in-Found-clause-stored
returns-in-Found-clause-stored c =
    rw (← c.self.view_is) (readied_found c.self.inside.slots c.args.key c.in-Found.place c.in-Found.ensures.walked.0)

pub returns-in-Free-clause-stored : goal.returns-in-Free-clause-stored
returns-in-Free-clause-stored c =
    rw (← c.self.view_is)
    (readied_put c.self.inside.slots c.args.key c.in-Free.place c.in-Free.tag c.in-Free.ensures.walked.0 _ c.put.ensures.put)

pub returns-in_ok-self-inside-in-Crowded-clause-stored :
    goal.returns-in_ok-self-inside-in-Crowded-clause-stored
returns-in_ok-self-inside-in-Crowded-clause-stored c =
    rw (← c.self.view_is)
    (c.in_ok-self-inside-in-Crowded.ensures.taken
    ∙ sym (readied_new _ c.args.key
    (get_out c.self.inside.slots.slots.items c.self.inside.slots.sound c.args.key c.in-Crowded.ensures.walked.0)))

pub returns-in-Found-clause-grown : goal.returns-in-Found-clause-grown
returns-in-Found-clause-grown c = λ shut.
    absurd (not_shut_found c.self.inside.slots.slots.items c.self.inside.slots.sound c.args.key c.in-Found.place
    c.in-Found.ensures.walked.0 (subst (λ t. IsShutOut t c.args.key) (sym c.self.view_is) shut))

pub returns-in-Free-clause-untouched : goal.returns-in-Free-clause-untouched
returns-in-Free-clause-untouched c = λ stored.
    absurd (not_stored _ c.args.key
    (get_free c.self.inside.slots.slots.items c.self.inside.slots.sound c.args.key c.in-Free.place c.in-Free.tag
    c.in-Free.ensures.walked.0) (subst (λ t. IsStored (counts_in t.slots) c.args.key) (sym c.self.view_is) stored))

pub returns-in-Free-clause-grown : goal.returns-in-Free-clause-grown
returns-in-Free-clause-grown c = λ shut.
    absurd (not_shut_free c.self.inside.slots.slots.items c.self.inside.slots.sound c.args.key c.in-Free.place
    c.in-Free.tag c.in-Free.ensures.walked.0 (subst (λ t. IsShutOut t c.args.key) (sym c.self.view_is) shut))

pub returns-in_err-self-inside-in-Crowded-clause-placed : goal.returns-in_err-self-inside-in-Crowded-clause-placed
returns-in_err-self-inside-in-Crowded-clause-placed c = λ open_place.
    absurd (open_place (subst (λ t. IsShutOut t c.args.key) c.self.view_is
    (taken_out c.self.inside.slots.slots.items c.self.inside.slots.sound c.args.key c.in-Crowded.ensures.walked.0)))

pub returns-in_ok-self-inside-in-Crowded-clause-untouched : goal.returns-in_ok-self-inside-in-Crowded-clause-untouched
returns-in_ok-self-inside-in-Crowded-clause-untouched c = λ stored.
    absurd (not_stored _ c.args.key
    (get_out c.self.inside.slots.slots.items c.self.inside.slots.sound c.args.key c.in-Crowded.ensures.walked.0)
    (subst (λ t. IsStored (counts_in t.slots) c.args.key) (sym c.self.view_is) stored))

pub returns-in_ok-self-inside-in-Crowded-clause-stays : goal.returns-in_ok-self-inside-in-Crowded-clause-stays
returns-in_ok-self-inside-in-Crowded-clause-stays c = λ open_place.
    absurd (open_place (subst (λ t. IsShutOut t c.args.key) c.self.view_is
    (taken_out c.self.inside.slots.slots.items c.self.inside.slots.sound c.args.key c.in-Crowded.ensures.walked.0)))

pub returns-in_ok-self-inside-in-Crowded-clause-uncrowded : goal.returns-in_ok-self-inside-in-Crowded-clause-uncrowded
returns-in_ok-self-inside-in-Crowded-clause-uncrowded c = λ uncrowded.
    absurd (uncrowded (subst (λ t. IsCrowded (counts_in t.slots) t.log c.args.key) c.self.view_is
    (crowded_by_out c.self.inside.slots.slots.items c.self.inside.slots.sound c.args.key c.in-Crowded.ensures.walked.0)))

pub returns-in_ok-self-inside-in-Crowded-clause-smallest : goal.returns-in_ok-self-inside-in-Crowded-clause-smallest
returns-in_ok-self-inside-in-Crowded-clause-smallest c =
    rw (← c.self.view_is) c.in_ok-self-inside-in-Crowded.ensures.smallest

pub returns-in_err-self-inside-in-Crowded-clause-known : goal.returns-in_err-self-inside-in-Crowded-clause-known
returns-in_err-self-inside-in-Crowded-clause-known c = λ stored.
    absurd (not_stored _ c.args.key
    (get_out c.self.inside.slots.slots.items c.self.inside.slots.sound c.args.key c.in-Crowded.ensures.walked.0)
    (subst (λ t. IsStored (counts_in t.slots) c.args.key) (sym c.self.view_is) stored))
