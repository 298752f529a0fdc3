use Rattle.std.proofs.Common.{◌++◌, [], ◌∷◌, Some, sym, ap, ◌∙◌, subst, arith}
use Rattle.std.proofs.lemmas.List.Elements.{All-pop}
use Rattle.std.specs.Prelude.{All}
use Rattle.kc_share.specs.declared.entry.Plan.{Plan}
use Rattle.kc_tickets.specs.Tickets.{TicketsSeen}
use Rattle.kc_run.specs.Runs.{HasWorked, HaveWorked}
use Rattle.kc_run.specs.declared.worker.Worker.{Worker}
use Rattle.kc_run.proofs.CrewLemmas.{HaveWorked-one, HaveWorked-more}
use Rattle.kc_run.proofs.crew.join_shares.Goals as goal

pub loop-seat-init : goal.loop-seat-init
loop-seat-init g c =
    let popped = λ (tickets : TicketsSeen) (plan : Plan) (all : All (λ (worker : Worker g.row.N.Denot). HasWorked tickets plan worker.seat worker.share) c.args.workers.items).
    All-pop (λ (worker : Worker g.row.N.Denot). HasWorked tickets plan worker.seat worker.share) _ _ (Some c.in-Some.field-0) c.in-Some.ensures.items all in
    let seats = c.in_ok-push.ensures.items ∙ ap (λ them. them ++ (c.in-Some.field-0.seat ∷ [])) c.in_ok-seats.ensures.items in
    record {
      counted = omega (arith, c.in_ok-push.ensures.len, c.in_ok-seats.ensures.len, c.in-Some.ensures.cases);
      left = λ tickets plan all. (popped tickets plan all).0;
      whole = λ tickets plan all. subst (λ them. HaveWorked tickets plan them c.in-Some.field-0.share) (sym seats)
          (HaveWorked-one tickets plan c.in-Some.field-0.seat c.in-Some.field-0.share (popped tickets plan all).1);
    }

pub loop-seat-preserved : goal.loop-seat-preserved
loop-seat-preserved g c =
    let i = c.loop-seat.invariant in
    let worker = c.in-Some-pop.field-0 in
    let popped = λ (tickets : TicketsSeen) (plan : Plan) (all : All (λ (worker : Worker g.row.N.Denot). HasWorked tickets plan worker.seat worker.share) c.args.workers.items).
    All-pop (λ (worker : Worker g.row.N.Denot). HasWorked tickets plan worker.seat worker.share) _ _ (Some worker) c.in-Some-pop.ensures.items (i.left tickets plan all) in
    record {
      counted = omega (arith, c.in_ok-push-2.ensures.len, c.in-Some-pop.ensures.cases, i.counted);
      left = λ tickets plan all. (popped tickets plan all).0;
      whole = λ tickets plan all. subst (λ them. HaveWorked tickets plan them c.join.new.share) (sym c.in_ok-push-2.ensures.items)
          (subst (λ share. HaveWorked tickets plan (c.loop-seat.seats.items ++ worker.seat ∷ []) share) (sym c.join.ensures)
          (HaveWorked-more tickets plan c.loop-seat.seats.items c.loop-seat.share worker.seat worker.share (i.whole tickets plan all) (popped tickets plan all).1));
    }
