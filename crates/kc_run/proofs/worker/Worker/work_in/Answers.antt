use Rattle.std.proofs.Common.{◌≡◌, ◌*◌, ◌%◌, ◌^◌, ◌<◌, ℕ, List, length, filter, nat_lt, ap, sym, ◌∙◌, subst, arith, rules}
use Rattle.std.proofs.Math.Nat.{mod-lt}
use Rattle.std.proofs.lemmas.List.{length_push}
use Rattle.std.proofs.lemmas.Result.{err_from_is_err_and}
use Rattle.kc_tickets.specs.Tickets.{answers_of}
use Rattle.kc_share.specs.Share.{ShareSeen, entry_total_in}
use Rattle.kc_booking.specs.Round.{RoundState}
use Rattle.kc_booking.specs.Setup.{stripe_count}
use Rattle.kc_run.proofs.EntryLemmas.{HaveMoreIn-round, no_entries}
use Rattle.kc_run.proofs.FaultLemmas.{fault_of_more}
use Rattle.kc_run.specs.Runs.{HaveMoreIn, IsWorkerFault, MayEverBeFull}
use Rattle.kc_run.proofs.worker.Worker.work_in.Goals as goal

pub loop-self-init : goal.loop-self-init
loop-self-init g c =
    let seat = c.args.self.now.seat in
    let ready = c.requires.ready in
    record {
      cut_up = c.requires.setup;
      none = c.requires.none;
      own = ready.seat_fresh.own;
      one_part = ap (λ (share : ShareSeen). share.parts) ready.unused;
      same_plan = ap (λ (share : ShareSeen). share.plan) ready.unused;
      booked = λ stripe less. ap (λ (share : ShareSeen). entry_total_in stripe share.booked) ready.unused ∙ no_entries stripe
          ∙ sym (ap (λ (drawn : List ℕ). length (filter (λ number. nat_lt number seat.limit) drawn)) ready.seat_fresh.fresh);
    }

pub loop-self-preserved : goal.loop-self-preserved
loop-self-preserved g c =
    let i = c.loop-self.invariant in
    let stripes : c.stripes-stripes.result ≡ stripe_count c.args.job.now.stripes.now.setup = search rules in
    let same : c.draw_batches.new.self.share ≡ c.loop-self.self.share = c.draw_batches.ensures.share in
    let round : c.clear.new.self.setup ≡ c.loop-self.buffers.round.setup =
    c.clear.ensures.setup ∙ ap (λ (round : RoundState). round.setup) (c.in_ok-before.ensures.round ∙ c.in_ok-behind.ensures.round) ∙ c.in_ok-draw_batches.ensures.setup in
    record {
      cut_up = round ∙ i.cut_up;
      none = c.clear.ensures.batches;
      own = c.draw_batches.ensures.own;
      one_part = c.book_range-in-loop-self.ensures.kept.0 ∙ c.book_range.ensures.kept.0 ∙ ap (λ (share : ShareSeen). share.parts) same ∙ i.one_part;
      same_plan = c.book_range-in-loop-self.ensures.kept.1 ∙ c.book_range.ensures.kept.1 ∙ ap (λ (share : ShareSeen). share.plan) same ∙ i.same_plan;
      booked = λ stripe less.
          let more = HaveMoreIn-round c.in_ok-behind.ensures.booked
          (subst (λ (round : RoundState). HaveMoreIn 0 (c.args.number * c.args.job.now.stripes_apart % 2 ^ 32 % c.stripes-stripes.result) (length round.batches) c.book_range.new.share.booked c.book_range-in-loop-self.new.share.booked) c.in_ok-behind.ensures.round c.in_ok-before.ensures.booked) stripe (omega (arith, less, stripes, c.requires.job.stripes)) in
          let before = ap (λ (share : ShareSeen). entry_total_in stripe share.booked) same in
          let drew = ap length c.in-Some.ensures.answered in
          let one_more = length_push (answers_of c.loop-self.self.seat) c.in-Some.drawn in
          omega (arith, more, before, i.booked stripe less, drew, one_more, c.in_ok-draw_batches.ensures.answered);
    }

pub returns-in_err-draw_batches-clause-refused : goal.returns-in_err-draw_batches-clause-refused
returns-in_err-draw_batches-clause-refused g c =
    let p = err_from_is_err_and c.from_residual.result c.from_residual.ensures.1 in
    rw (p.1, p.2) tt

pub returns-in_err-behind-clause-refused : goal.returns-in_err-behind-clause-refused
returns-in_err-behind-clause-refused g c =
    let p = err_from_is_err_and c.from_residual-in_err-behind.result c.from_residual-in_err-behind.ensures.1 in
    let stripes : c.stripes-stripes.result ≡ stripe_count c.args.job.now.stripes.now.setup = search rules in
    rw (p.1, p.2)
    (subst (λ n. IsWorkerFault (MayEverBeFull g.N.Terms.may_be_full) n c.in_err-behind.field-0.0) (stripes ∙ sym c.requires.job.stripes) c.in_err-behind.ensures.refused)

pub returns-in_err-before-clause-refused : goal.returns-in_err-before-clause-refused
returns-in_err-before-clause-refused g c =
    let p = err_from_is_err_and c.from_residual-in_err-before.result c.from_residual-in_err-before.ensures.1 in
    let stripes : c.stripes-stripes.result ≡ stripe_count c.args.job.now.stripes.now.setup = search rules in
    let some : 0 < c.stripes-stripes.result = search rules in
    let less = mod-lt (c.args.number * c.args.job.now.stripes_apart % 2 ^ 32) some in
    rw (p.1, p.2)
    (fault_of_more (MayEverBeFull g.N.Terms.may_be_full) _ c.args.job.now.plan.stripes c.in_err-before.field-0.0
    (omega (arith, less, stripes, c.requires.job.stripes)) c.in_err-before.ensures.refused)
