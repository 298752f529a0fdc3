use Rattle.std.proofs.Common.{◌≡◌, [], length, ap, sym, ◌∙◌, arith}
use Rattle.std.proofs.lemmas.List.Elements.{All-nil, All-push, All-same}
use Rattle.kc_tickets.specs.declared.tickets.Plan.{Plan}
use Rattle.kc_tickets.specs.Tickets.{TicketsSeen, SeatSeen, IsSeatOf}
use Rattle.kc_tickets.specs.WholeDraws.{seat_of}
use Rattle.kc_tickets.proofs.DrawLemmas.{HasWholeDraws-opening, new_seat_keeps}
use Rattle.kc_tickets.proofs.TicketLemmas.{fresh_is_open}
use Rattle.kc_tickets.proofs.tickets.Tickets.new.Goals as goal

pub of_words-requires : goal.of_words-requires
of_words-requires c =
    let plan : Plan = record { limit = c.args.limit; seats = c.from.result } in
    HasWholeDraws-opening plan c.requires.limit (omega arith) (omega arith)

pub loop-init : goal.loop-init
loop-init c =
    let made = c.in_ok-table.ensures in
    let shared = c.in_ok-table.table.shared in
    let tickets : TicketsSeen = record { table = shared.table_id; limit = shared.key.limit; seats = shared.key.seats } in
    let none = c.in_ok-row.ensures.items in
    record {
      table = made.2;
      limit = ap (λ me. me.0.limit) made.4 ∙ sym (ap (λ (plan : Plan). plan.limit) made.5);
      weight = omega (arith, ap (λ me. me.0.weight) made.4, ap length none, c.from.ensures);
      counted = omega (arith, ap length none);
      none_drawn = ap (λ me. me.0.drawn) made.4;
      no_slots = ap (λ me. me.1) made.4;
      room = c.in_ok-row.ensures.exact;
      own = All-same (IsSeatOf tickets) _ _ none (All-nil (IsSeatOf tickets));
      fresh = All-same (λ (seat : SeatSeen). seat.drawn ≡ []) _ _ none (All-nil (λ (seat : SeatSeen). seat.drawn ≡ []));
    }

pub split_seat-token-requires : goal.split_seat-token-requires
split_seat-token-requires c =
    let i = c.loop.invariant in
    (i.table, omega (arith, c.in_ok-table.ensures.0), new_seat_keeps _ _ _ (omega (arith, i.weight, i.counted, c.loop-test.true)) i.none_drawn)

pub loop-preserved : goal.loop-preserved
loop-preserved c =
    let i = c.loop.invariant in
    let split = c.split_seat-token.ensures in
    let shared = c.in_ok-table.table.shared in
    let tickets : TicketsSeen = record { table = shared.table_id; limit = shared.key.limit; seats = shared.key.seats } in
    let seat = seat_of c.split_seat-token.result.table_id c.split_seat-token.result.me.0 in
    let own : IsSeatOf tickets seat = (split.3 ∙ i.table, ap (λ me. me.0.limit) split.4 ∙ i.limit) in
    let items = c.push_reserved.ensures.items in
    record {
      table = split.0 ∙ i.table;
      limit = ap (λ me. me.0.limit) split.2 ∙ i.limit;
      weight = omega (arith, ap (λ me. me.0.weight) split.2, c.push_reserved.ensures.len, i.weight, i.counted, c.loop-test.true);
      counted = omega (arith, c.push_reserved.ensures.len, i.counted);
      none_drawn = ap (λ me. me.0.drawn) split.2 ∙ i.none_drawn;
      no_slots = ap (λ me. me.1) split.2 ∙ i.no_slots;
      room = c.push_reserved.ensures.capacity ∙ i.room;
      own = All-same (IsSeatOf tickets) c.push_reserved.new.self.items _ items (All-push (IsSeatOf tickets) c.loop.row.items seat i.own own);
      fresh = All-same (λ (seat : SeatSeen). seat.drawn ≡ []) c.push_reserved.new.self.items _ items
          (All-push (λ (seat : SeatSeen). seat.drawn ≡ []) c.loop.row.items seat i.fresh (ap (λ me. me.0.drawn) split.4));
    }

pub invariant_of-push_reserved-2 : goal.invariant_of-push_reserved-2
invariant_of-push_reserved-2 c =
    let i = c.loop.invariant in
    (i.no_slots, omega (arith, i.weight, i.counted, c.loop-test.false), fresh_is_open (seat_of c.loop.first.table_id c.loop.first.me.0) i.none_drawn)

pub returns-clause-seats : goal.returns-clause-seats
returns-clause-seats c =
    let i = c.loop.invariant in (
      ap (λ (plan : Plan). plan.seats) c.in_ok-table.ensures.5 ∙ c.from.ensures,
      omega (arith, c.push_reserved-2.ensures.len, i.counted, c.loop-test.false),
    )

pub returns-clause-own : goal.returns-clause-own
returns-clause-own c =
    let i = c.loop.invariant in
    let shared = c.in_ok-table.table.shared in
    let tickets : TicketsSeen = record { table = shared.table_id; limit = shared.key.limit; seats = shared.key.seats } in
    All-same (IsSeatOf tickets) c.push_reserved-2.new.self.items _ c.push_reserved-2.ensures.items
    (All-push (IsSeatOf tickets) c.loop.row.items (seat_of c.loop.first.table_id c.loop.first.me.0) i.own (i.table, i.limit))

pub returns-clause-fresh : goal.returns-clause-fresh
returns-clause-fresh c =
    let i = c.loop.invariant in
    All-same (λ (seat : SeatSeen). seat.drawn ≡ []) c.push_reserved-2.new.self.items _ c.push_reserved-2.ensures.items
    (All-push (λ (seat : SeatSeen). seat.drawn ≡ []) c.loop.row.items (seat_of c.loop.first.table_id c.loop.first.me.0) i.fresh i.none_drawn)
