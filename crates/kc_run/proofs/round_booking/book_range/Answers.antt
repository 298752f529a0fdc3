use Rattle.std.proofs.Common.{◌≡◌, ◌∙◌, ◌+◌, All, Err, ap, arith, length, subst, sym}
use Rattle.kc_share.specs.Share.{ShareSeen}
use Rattle.kc_booking.specs.Round.{RoundState}
use Rattle.kc_booking.specs.Setup.{StripeSetup, stripe_count}
use Rattle.kc_booking.specs.Cuts.{RoundCut, cuts_in, round_at}
use Rattle.kc_stripe.specs.Locked.{with_bookings}
use Rattle.kc_stripe.specs.Terms.{MayBeTooMany}
use Rattle.kc_run.specs.Runs.{HaveMoreIn, IsWorkerFault, MayEverBeFull}
use Rattle.kc_run.proofs.EntryLemmas.{HaveMoreIn-next}
use Rattle.kc_run.proofs.FaultLemmas.{ever_full, fault_of_booking}
use Rattle.kc_run.proofs.RoundLemmas.{all_booked}
use Rattle.kc_run.proofs.round_booking.book_range.Goals as goal

pub cuts-cuts-requires : goal.cuts-cuts-requires
cuts-cuts-requires g c =
    let same = ap (λ (round : RoundState). stripe_count round.setup) c.loop-stripe.invariant.round in
    let own = ap stripe_count c.requires.cut_up in
    omega (arith, c.loop-stripe-test.true, c.requires.range, same, own)

pub book_all-requires-clause-stripe : goal.book_all-requires-clause-stripe
book_all-requires-clause-stripe g c =
    omega (arith, ap (λ (cuts : RoundCut). cuts.stripe) c.cuts-cuts.ensures, c.loop-stripe-test.true, c.requires.range)

pub book_all-requires-clause-allowed : goal.book_all-requires-clause-allowed
book_all-requires-clause-allowed g c =
    let batches = ap (λ (cuts : RoundCut). cuts.batches) c.cuts-cuts.ensures ∙ ap (λ (round : RoundState). round.batches) c.loop-stripe.invariant.round in
    subst (All g.N.Terms.may_be_booked) (sym batches) c.requires.allowed

pub loop-stripe-preserved : goal.loop-stripe-preserved
loop-stripe-preserved g c =
    let i = c.loop-stripe.invariant in
    let stripe = c.loop-stripe.stripe in
    let share = c.loop-stripe.share in
    let round = c.args.buffers.now.round in
    let here : c.cuts-cuts.result ≡ round_at round.setup round.batches stripe =
    c.cuts-cuts.ensures ∙ ap (λ (round : RoundState). round_at round.setup round.batches stripe) i.round in
    let booked : c.book_all.new.share ≡ with_bookings share (cuts_in (round_at round.setup round.batches stripe)) =
    c.in-Ok.ensures.booked ∙ ap (λ (cuts : RoundCut). with_bookings share (cuts_in cuts)) here in
    let more : HaveMoreIn stripe (stripe + 1) (length round.batches) share.booked c.book_all.new.share.booked =
    subst (λ (new : ShareSeen). HaveMoreIn stripe (stripe + 1) (length round.batches) share.booked new.booked) (sym booked)
    (all_booked round.setup stripe round.batches share) in
    record {
      round = i.round;
      parts = c.in-Ok.ensures.kept.0 ∙ i.parts;
      plan = c.in-Ok.ensures.kept.1 ∙ i.plan;
      low = omega (arith, i.low);
      high = omega (arith, c.loop-stripe-test.true);
      booked = HaveMoreIn-next i.low i.booked more;
    }

pub returns-in-Err-clause-refused : goal.returns-in-Err-clause-refused
returns-in-Err-clause-refused g c =
    let setup : c.cuts-cuts.result.setup ≡ c.args.stripes.now.setup =
    ap (λ (cuts : RoundCut). cuts.setup) c.cuts-cuts.ensures ∙ ap (λ (round : RoundState). round.setup) c.loop-stripe.invariant.round ∙ c.requires.cut_up in
    let few = subst (λ (setup : StripeSetup). ¬ MayBeTooMany setup.rule.k g.N.Terms.may_be_booked) (sym setup) c.requires.few in
    let MayBeFull = MayEverBeFull g.N.Terms.may_be_full in
    subst (IsWorkerFault MayBeFull c.args.to) (sym c.of_booking.ensures)
    (fault_of_booking MayBeFull c.args.to c.loop-stripe.stripe c.in-Err.fault c.loop-stripe-test.true
    (λ full. ever_full _ g.N.Terms.may_be_full _ few (c.in-Err.ensures.full (ap Err full))))
