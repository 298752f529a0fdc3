use Rattle.std.proofs.Common.{◌≡◌, ◌-◌, [], Some, ap, ◌∙◌, vec_len, arith}
use Rattle.std.proofs.lemmas.List.Elements.{All-pop, All-push, All-same}
use Rattle.kc_share.specs.Share.{share_of, with_one_part_less, new_share}
use Rattle.std.specs.Prelude.{All}
use Rattle.kc_tickets.specs.Tickets.{TicketsSeen}
use Rattle.kc_run.specs.Runs.{IsFreshSeatOf, IsReady}
use Rattle.kc_run.specs.declared.worker.Worker.{Worker}
use Rattle.kc_run.proofs.crew.workers_of.Goals as goal

pub loop-seats-preserved : goal.loop-seats-preserved
loop-seats-preserved g c =
    let i = c.loop-seats.invariant in
    let plan = c.args.share.plan in
    let popped = λ (tickets : TicketsSeen) (all : All (IsFreshSeatOf tickets) c.args.seats.items). All-pop (IsFreshSeatOf tickets) _ _ (Some c.in-Some.seat) c.in-Some.ensures.items (i.left tickets all) in
    let one_less : vec_len c.loop-seats.seats - 1 ≡ vec_len c.pop.new.self = omega (arith, c.in-Some.ensures.cases) in
    record {
      counted = omega (arith, c.in_ok-push.ensures.len, c.in-Some.ensures.cases, i.counted);
      some = omega (arith, c.in-Some.ensures.cases, c.loop-seats-test.true, c.len-in-loop-seats.ensures);
      share = c.split-share.ensures.share ∙ ap with_one_part_less i.share ∙ ap (λ n. share_of plan n []) one_less;
      left = λ tickets all. (popped tickets all).0;
      ready = λ tickets all. All-same (λ (worker : Worker g.row.N.Denot). IsReady tickets plan worker.seat worker.share) c.push.new.self.items _ c.in_ok-push.ensures.items
          (All-push (λ (worker : Worker g.row.N.Denot). IsReady tickets plan worker.seat worker.share) c.loop-seats.workers.items (record { seat = c.in-Some.seat; share = c.split-share.result }) (i.ready tickets all)
          (record { seat_fresh = (popped tickets all).1; unused = c.split-share.ensures.new ∙ ap new_share i.share }));
    }

pub returns-clause-ready : goal.returns-clause-ready
returns-clause-ready g c tickets all =
    let i = c.loop-seats.invariant in
    let plan = c.args.share.plan in
    let last = (All-pop (IsFreshSeatOf tickets) _ _ (Some c.in-Some-pop.seat) c.in-Some-pop.ensures.items (i.left tickets all)).1 in
    let one : vec_len c.loop-seats.seats ≡ 1 = omega (arith, i.some, c.loop-seats-test.false, c.len-in-loop-seats.ensures) in
    All-same (λ (worker : Worker g.row.N.Denot). IsReady tickets plan worker.seat worker.share) c.push-2.new.self.items _ c.in_ok-push-2.ensures.items
    (All-push (λ (worker : Worker g.row.N.Denot). IsReady tickets plan worker.seat worker.share) c.loop-seats.workers.items (record { seat = c.in-Some-pop.seat; share = c.loop-seats.share }) (i.ready tickets all)
    (record { seat_fresh = last; unused = i.share ∙ ap (λ n. share_of plan n []) one }))
