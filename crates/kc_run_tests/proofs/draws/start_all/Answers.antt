use Rattle.std.proofs.Common.{◌≡◌, [], ◌∷◌, ◌++◌, Some, ap, ◌∙◌, arith}
use Rattle.std.proofs.lemmas.List.Elements.{All-pop, All-push, All-same}
use Rattle.kc_tickets.specs.Tickets.{SeatSeen, IsSeatOf}
use Rattle.kc_run_tests.specs.declared.draws.Drained.{Drained}
use Rattle.kc_run_tests.proofs.draws.start_all.Goals as goal

pub loop-seat-preserved : goal.loop-seat-preserved
loop-seat-preserved g c =
    let i = c.loop-seat.invariant in
    let left = c.in-Some.ensures.items in
    let items = c.in_ok-push.ensures.items in
    record {
      own = (All-pop (IsSeatOf c.args.tickets.now) _ _ (Some c.in-Some.seat) left i.own).0;
      fresh = (All-pop (λ (seat : SeatSeen). seat.drawn ≡ []) _ _ (Some c.in-Some.seat) left i.fresh).0;
      counted = omega (arith, c.in_ok-push.ensures.len, c.in-Some.ensures.cases, i.counted);
      promised = All-same (λ thread. thread.promise.0.value ≡ c.args.tickets.now) c.push.new.self.items (c.loop-seat.threads.items ++ c.in_ok-spawn_with.field-0 ∷ []) items
          (All-push (λ thread. thread.promise.0.value ≡ c.args.tickets.now) c.loop-seat.threads.items c.in_ok-spawn_with.field-0 i.promised
          (ap (λ (promise : Drained). promise.0.value) c.in_ok-spawn_with.ensures.ok ∙ c.of.ensures));
    }
