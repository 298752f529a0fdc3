use Rattle.std.proofs.Common.{◌≡◌, ◌∙◌, length, ap, sym, subst, vec_len, rules, arith}
use Rattle.std.specs.Prelude.{All}
use Rattle.std.proofs.lemmas.Result.{err_from_is_err_and}
use Rattle.kc_share.specs.declared.entry.Plan.{Plan}
use Rattle.kc_share.specs.Share.{ShareSeen}
use Rattle.kc_share.specs.Sheet.{plan_of}
use Rattle.kc_run.specs.Runs.{IsReady, IsRunFault, MayEverBeFull}
use Rattle.kc_run.specs.declared.worker.Worker.{Worker}
use Rattle.kc_booking.specs.Setup.{StripeSetup, stripe_count}
use Rattle.kc_stripe.specs.Terms.{MayBeTooMany}
use Rattle.kc_run.proofs.CrewLemmas.{fresh_seats}
use Rattle.kc_run.proofs.GatheringLemmas.{journals_counted}
use Rattle.kc_run.proofs.whole_run.count_batches.Goals as goal

pub work_all-requires-clause-ready : goal.work_all-requires-clause-ready
work_all-requires-clause-ready g c κs within =
    let count = c.args.count.now in
    let tickets = c.in_ok-tickets.tickets in
    let made = c.in_ok-tickets.ensures in
    let stripes : c.from.result ≡ stripe_count count.setup.now = search rules in
    let workers : c.from-2.result ≡ count.workers = search rules in
    let same : plan_of (stripe_count count.setup.now) count.workers ≡ plan_of c.from.result c.from-2.result = sym (λ i. plan_of (stripes i) (workers i)) in
    subst (λ (p : Plan). All (λ (worker : Worker g.row.N.Denot). IsReady tickets p worker.seat worker.share) c.in_ok-ready.ready.items)
    (ap (λ (s : ShareSeen). s.plan) c.in_ok-stripes.ensures.share ∙ c.requires.plan ∙ same)
    (c.in_ok-ready.ensures.ready tickets (fresh_seats tickets c.in_ok-tickets.seats.items made.own made.fresh))

pub close-requires-clause-own : goal.close-requires-clause-own
close-requires-clause-own g c =
    (c.in_ok-seats.ensures.whole c.in_ok-tickets.tickets (plan_of c.from.result c.from-2.result) c.in_ok-ended.ensures.worked).own

pub returns-clause-counted : goal.returns-clause-counted
returns-clause-counted g c =
    let count = c.args.count.now in
    let share = c.in_ok-seats.share in
    let whole = c.in_ok-seats.ensures.whole c.in_ok-tickets.tickets (plan_of c.from.result c.from-2.result) c.in_ok-ended.ensures.worked in
    let stripes : c.from.result ≡ stripe_count count.setup.now = search rules in
    let workers : c.from-2.result ≡ count.workers = search rules in
    let many : length c.in_ok-seats.seats.items ≡ count.workers = search rules in
    let parts : share.parts ≡ share.plan.parts = omega (arith, whole.parts, ap (λ (p : Plan). p.parts) whole.same_plan, many, workers) in
    record {
      one_each = search rules;
      counted = journals_counted c.in_ok-stripes-2.stripes.items share.booked (length count.batches.now) (stripe_count count.setup.now)
          (c.in_ok-stripes-2.ensures.whole parts)
          (λ stripe less. whole.booked stripe (omega (arith, less, stripes)) ∙ c.close.ensures.count whole.done ∙ c.in_ok-tickets.ensures.limit);
    }

pub returns-in_err-ended-clause-refused : goal.returns-in_err-ended-clause-refused
returns-in_err-ended-clause-refused g c =
    let count = c.args.count.now in
    let fault = c.in_err-ended.field-0.0 in
    let full = MayEverBeFull g.N.Terms.may_be_full in
    let stripes : c.from.result ≡ stripe_count count.setup.now = search rules in
    let many : vec_len c.in_ok-ready.ready ≡ count.workers = search rules in
    let p = err_from_is_err_and c.from_residual-in_err-ended.result c.from_residual-in_err-ended.ensures.1 in
    rw (p.1, p.2)
    (subst (λ n. IsRunFault full n (stripe_count count.setup.now) fault) many
    (subst (λ n. IsRunFault full (vec_len c.in_ok-ready.ready) n fault) stripes c.in_err-ended.ensures.refused))

pub work_all-requires-clause-job : goal.work_all-requires-clause-job
work_all-requires-clause-job g c κs within =
    let setup = c.in_ok-stripes.stripes.setup in
    let limit : c.in_ok-tickets.tickets.limit ≡ length c.args.count.now.batches.now = search rules in
    let stripes : c.from.result ≡ stripe_count setup = search rules in
    record {
      limit = limit;
      stripes = stripes;
      allowed = c.requires.allowed;
      few_allowed = subst (λ (setup : StripeSetup). ¬ MayBeTooMany setup.rule.k g.N.Terms.may_be_booked) (sym c.in_ok-stripes.ensures.setup) c.requires.few_allowed;
    }
