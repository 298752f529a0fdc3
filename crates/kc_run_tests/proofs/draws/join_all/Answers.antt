use Rattle.std.proofs.Common.{◌≡◌, [], ◌∷◌, ◌++◌, Some, Vec, ℕ, Global, sym, ap, ◌∙◌, arith}
use Rattle.std.specs.List.{flat_map}
use Rattle.std.proofs.lemmas.List.Concat.{flat_map-append}
use Rattle.std.proofs.lemmas.List.Elements.{All-push, All-pop, All-same}
use Rattle.kc_tickets.specs.Tickets.{TicketsSeen, IsSeatOf, IsDone, answers_of}
use Rattle.kc_run_tests.proofs.draws.join_all.Goals as goal

pub loop-thread-preserved : goal.loop-thread-preserved
loop-thread-preserved g c =
    let i = c.loop-thread.invariant in
    let popped = All-pop (λ thread. thread.promise.0.value ≡ c.args.tickets.now) c.loop-thread.threads.items c.pop.new.self.items (Some c.in-Some.thread) c.in-Some.ensures.items i.promised in
    let ended = c.in_ok-seat.ensures in
    let seat = c.in_ok-seat.seat in
    let own : IsSeatOf c.args.tickets.now seat = (ended.0.0 ∙ ap (λ (tickets : TicketsSeen). tickets.table) popped.1, ended.0.1 ∙ ap (λ (tickets : TicketsSeen). tickets.limit) popped.1) in
    let seats = c.in_ok-push.ensures.items in
    let all = c.in_ok-push-2.ensures.items in
    record {
      promised = popped.0;
      counted = omega (arith, c.in_ok-push.ensures.len, c.in-Some.ensures.cases);
      own = All-same (IsSeatOf c.args.tickets.now) c.push.new.self.items _ seats (All-push (IsSeatOf c.args.tickets.now) c.loop-thread.seats.items seat i.own own);
      done = All-same IsDone c.push.new.self.items _ seats (All-push IsDone c.loop-thread.seats.items seat i.done ended.1);
      numbers = ap (flat_map (λ (v : Vec ℕ Global). v.items)) all
          ∙ flat_map-append (λ (v : Vec ℕ Global). v.items) c.loop-thread.all.items (c.in_ok-seat.numbers ∷ [])
          ∙ ap (λ xs. xs ++ (c.in_ok-seat.numbers.items ++ [])) i.numbers
          ∙ ap (λ xs. flat_map answers_of c.loop-thread.seats.items ++ (xs ++ [])) ended.2
          ∙ sym (ap (flat_map answers_of) seats ∙ flat_map-append answers_of c.loop-thread.seats.items (seat ∷ []));
    }
