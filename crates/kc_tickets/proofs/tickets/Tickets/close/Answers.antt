use Rattle.std.proofs.Common.{◌≡◌, ◌<◌, ◌++◌, ◌+◌, Some, length, length-append, ap, subst, sym, ◌∙◌, arith}
use Rattle.std.proofs.lemmas.List.Elements.{All-pop, All-weaker}
use Rattle.std.proofs.lemmas.List.Sorted.{IsPermutation-trans}
use Rattle.std.specs.List.Sorted.{IsPermutation}
use Rattle.kc_tickets.specs.Tickets.{TicketsSeen, SeatSeen, IsSeatOf, numbers_below}
use Rattle.kc_tickets.proofs.DrawLemmas.{return_keeps, whole_view_has_all}
use Rattle.kc_tickets.proofs.TicketLemmas.{all_drawn, all_answers, answer_count, begins_with, takes_in, nothing_left}
use Rattle.kc_tickets.proofs.tickets.Tickets.close.Goals as goal

pub loop-seat-init : goal.loop-seat-init
loop-seat-init c =
    let items = c.in-Some.ensures.items in
    let popped = All-pop (IsSeatOf c.args.self) _ _ (Some c.in-Some.first) items c.requires.own in
    let first = c.first.view_is in
    record {
      table = ap (λ (d : SeatSeen). d.table) first ∙ popped.1.0;
      own = popped.0;
      heavy = omega (arith, c.first.invariant.1);
      weight = omega (arith, c.first.invariant.1, length-append {A = SeatSeen}, ap length items, c.requires.all);
      drawn = subst (λ drawn. IsPermutation (all_drawn c.args.seats.items) (all_drawn c.pop.new.self.items ++ drawn)) (sym (ap (λ (d : SeatSeen). d.drawn) first))
          (begins_with c.args.seats.items c.pop.new.self.items c.in-Some.first items);
    }

pub join_seat-requires : goal.join_seat-requires
join_seat-requires c =
    let i = c.loop-seat.invariant in
    let tickets = sym (ap (λ (r : TicketsSeen). r.table) c.self.view_is) in
    let mine = (All-pop (IsSeatOf c.args.self) _ _ (Some c.in-Some-pop.seat) c.in-Some-pop.ensures.items i.own).1 in
    let table = ap (λ (d : SeatSeen). d.table) c.seat.view_is ∙ mine.0 ∙ tickets in
    (i.table ∙ tickets, table, c.seat.invariant.0, omega (arith, c.self.invariant.0), return_keeps _ _ _ _ _ i.heavy (omega (arith, c.seat.invariant.1)))

pub loop-seat-preserved : goal.loop-seat-preserved
loop-seat-preserved c =
    let i = c.loop-seat.invariant in
    let items = c.in-Some-pop.ensures.items in
    let popped = All-pop (IsSeatOf c.args.self) _ _ (Some c.in-Some-pop.seat) items i.own in
    let joined = c.join_seat.ensures in
    let weight : c.join_seat.new.seat.me.0.weight ≡ c.loop-seat.whole.me.0.weight + c.seat.inside.token.me.0.weight = ap (λ me. me.0.weight) joined.2 in
    let drawn : c.join_seat.new.seat.me.0.drawn ≡ c.loop-seat.whole.me.0.drawn ++ c.in-Some-pop.seat.drawn =
    ap (λ me. me.0.drawn) joined.2 ∙ ap (λ (d : SeatSeen). c.loop-seat.whole.me.0.drawn ++ d.drawn) c.seat.view_is in
    record {
      table = joined.0 ∙ i.table;
      own = popped.0;
      heavy = omega (arith, weight, i.heavy);
      weight = omega (arith, weight, c.seat.invariant.1, length-append {A = SeatSeen}, ap length items, i.weight);
      drawn = rw drawn (takes_in _ _ _ _ _ items i.drawn);
    }

pub returns-clause-drawn : goal.returns-clause-drawn
returns-clause-drawn c =
    let i = c.loop-seat.invariant in
    let whole = c.loop-seat.whole in
    let none_left : length c.loop-seat.seats.items ≡ 0 = omega (arith, c.in_default-pop.ensures.cases) in
    let last = c.close_with.ensures.values.2 in
    let (next, is, holds) = last.1.0 in
    let weight : whole.me.0.weight ≡ c.self.inside.table.shared.key.seats = omega (arith, i.weight, none_left, ap (λ (r : TicketsSeen). r.seats) c.self.view_is) in (
      next,
      IsPermutation-trans (all_drawn c.args.seats.items) whole.me.0.drawn (numbers_below next) (nothing_left _ c.loop-seat.seats.items _ none_left i.drawn)
          (whole_view_has_all whole.id whole.me.0 holds last.1.1 weight),
    )

pub returns-clause-answered : goal.returns-clause-answered
returns-clause-answered c done =
    let drawn = returns-clause-drawn c in
    let some : 0 < length c.args.seats.items = omega (arith, ap (λ (r : TicketsSeen). r.seats) c.self.view_is) in
    let same = All-weaker (IsSeatOf c.args.self) (λ (seat : SeatSeen). seat.limit ≡ c.args.self.limit) (λ seat own. own.1) c.args.seats.items c.requires.own in
    all_answers c.args.self.limit drawn.0 c.args.seats.items some same drawn.1 done

pub returns-clause-count : goal.returns-clause-count
returns-clause-count c done = answer_count c.args.self.limit c.args.seats.items (returns-clause-answered c done)
