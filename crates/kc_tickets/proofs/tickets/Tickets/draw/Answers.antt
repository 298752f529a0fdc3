use Rattle.std.proofs.Common.{◌≡◌, refl, sym, ap, ◌∙◌, subst, arith}
use Rattle.kc_tickets.specs.Tickets.{TicketsSeen, SeatSeen, IsDone}
use Rattle.kc_tickets.specs.WholeDraws.{seat_of}
use Rattle.kc_tickets.proofs.DrawLemmas.{draw_keeps, decision_keeps}
use Rattle.kc_tickets.proofs.TicketLemmas.{all_below, TwoSteps, two_steps, stays_open, ends, few_answers}
use Rattle.kc_tickets.proofs.tickets.Tickets.draw.Goals as goal

pub fetch_add-number-requires : goal.fetch_add-number-requires
fetch_add-number-requires c =
    let table = ap (λ (d : SeatSeen). d.table) c.seat.view_is ∙ c.requires.own.0 ∙ sym (ap (λ (r : TicketsSeen). r.table) c.self.view_is) in
    let old = seat_of c.seat.inside.token.table_id c.seat.inside.token.me.0 in
    let more = subst (λ (d : SeatSeen). ¬ IsDone d) (sym c.seat.view_is) c.requires.more in
    (table, omega arith, draw_keeps _ _ _ _ c.seat.invariant.1 (all_below old more))

pub load-limit-requires : goal.load-limit-requires
load-limit-requires c =
    let table = ap (λ (d : SeatSeen). d.table) c.seat.view_is ∙ c.requires.own.0 ∙ sym (ap (λ (r : TicketsSeen). r.table) c.self.view_is) in
    let drew = c.fetch_add-number.ensures in
    let weight : c.fetch_add-number.new.seat.me.0.weight ≡ 1 = ap (λ me. me.0.weight) drew.2.0 ∙ c.seat.invariant.1 in
    (drew.0 ∙ table, omega arith, decision_keeps _ _ _ _ (omega arith))

pub invariant_of-seat : goal.invariant_of-seat
invariant_of-seat c =
    let more = subst (λ (d : SeatSeen). ¬ IsDone d) (sym c.seat.view_is) c.requires.more in
    let drew = c.fetch_add-number.ensures in
    let decided = c.load-limit.ensures in
    let taken : TwoSteps _ _ _ _ _ _ _ _ = record { drew_at = drew.0; drew = drew.2; decided_at = decided.0; decided = decided.2 } in
    let steps = two_steps taken in
    let i = c.seat.invariant in (
      steps.slots ∙ i.0,
      steps.weight ∙ i.1,
      (λ told. absurd (more (i.2.0 told)), λ ended. absurd (stays_open steps more c.if-number-limit.true ended)),
    )

pub returns-then-number-limit-clause-done : goal.returns-then-number-limit-clause-done
returns-then-number-limit-clause-done c =
    let more = subst (λ (d : SeatSeen). ¬ IsDone d) (sym c.seat.view_is) c.requires.more in
    let drew = c.fetch_add-number.ensures in
    let decided = c.load-limit.ensures in
    let taken : TwoSteps _ _ _ _ _ _ _ _ = record { drew_at = drew.0; drew = drew.2; decided_at = decided.0; decided = decided.2 } in
    let steps = two_steps taken in
    (λ never. absurd (cc never), λ ended. absurd (stays_open steps more c.if-number-limit.true ended))

pub returns-then-number-limit-clause-bounded : goal.returns-then-number-limit-clause-bounded
returns-then-number-limit-clause-bounded c =
    let drew = c.fetch_add-number.ensures in
    let decided = c.load-limit.ensures in
    let taken : TwoSteps _ _ _ _ _ _ _ _ = record { drew_at = drew.0; drew = drew.2; decided_at = decided.0; decided = decided.2 } in
    let steps = two_steps taken in
    let limit : c.load-limit.result ≡ c.args.self.now.limit = steps.limit_is ∙ ap (λ (d : SeatSeen). d.limit) c.seat.view_is ∙ c.requires.own.1 in
    omega (arith, few_answers steps c.if-number-limit.true, steps.limit_is, limit)

pub invariant_of-seat-2 : goal.invariant_of-seat-2
invariant_of-seat-2 c =
    let drew = c.fetch_add-number.ensures in
    let decided = c.load-limit.ensures in
    let taken : TwoSteps _ _ _ _ _ _ _ _ = record { drew_at = drew.0; drew = drew.2; decided_at = decided.0; decided = decided.2 } in
    let steps = two_steps taken in
    let i = c.seat.invariant in
    (steps.slots ∙ i.0, steps.weight ∙ i.1, (λ _. ends steps (omega (arith, c.if-number-limit.false)), λ _. refl))

pub returns-clause-done : goal.returns-clause-done
returns-clause-done c =
    let drew = c.fetch_add-number.ensures in
    let decided = c.load-limit.ensures in
    let taken : TwoSteps _ _ _ _ _ _ _ _ = record { drew_at = drew.0; drew = drew.2; decided_at = decided.0; decided = decided.2 } in
    let steps = two_steps taken in
    (λ _. ends steps (omega (arith, c.if-number-limit.false)), λ _. refl)
