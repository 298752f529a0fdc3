use Rattle.std.proofs.Common.{◌≡◌, ◌∙◌, ℕ, true, ap, subst, sym}
use Rattle.std.proofs.lemmas.Bool.{not-false}
use Rattle.kc_booking.specs.Listed.{is_same_setup}
use Rattle.kc_booking.specs.Setup.{stripe_of}
use Rattle.kc_booking.proofs.ListedLemmas.{is_same_setup-Decides}
use Rattle.kc_stripe.specs.Seen.{AreNamed, IsStripeOf}
use Rattle.kc_stripe.proofs.LockedLemmas.{named-from_among}
use Rattle.kc_stripe.proofs.locked.Locked.look.Given.{Over}
use Rattle.kc_stripe.proofs.locked.Locked.look.Goals as goal

-- the stripe is the one in which the word counts
is-stripe : (g : Over) (c : goal.In_ok-seen g) → IsStripeOf c.args.setup.now c.args.word.0 c.self.inside.stripe
is-stripe g c =
    let asked = c.args.setup.now in
    let told : is_same_setup c.setup.result.now asked ≡ true = not-false _ (sym c.ne.ensures ∙ c.if-ne.false) in (
      sym c.setup.ensures ∙ (is_same_setup-Decides c.setup.result.now asked).0 told,
      sym c.number.ensures.value ∙ c.if-number.false ∙ c.stripe_of-number.ensures.value ∙ ap (stripe_of asked) c.form_of.ensures.value,
    )

pub returns-clause-setup : goal.returns-clause-setup
returns-clause-setup g c = c.in_ok-seen.ensures.setup ∙ (is-stripe g c).0

pub returns-clause-named : goal.returns-clause-named
returns-clause-named g c =
    let stripe = c.self.inside.stripe in
    let named : AreNamed stripe.number c.args.share.now.booked stripe.journal = named-from_among stripe c.self.inside.keeper c.self.invariant.on_sheet c.among_is_there.ensures c.args.share.now.booked c.look.ensures.among in
    let journal : stripe.journal ≡ c.in_ok-seen.seen.batches = sym c.in_ok-seen.ensures.batches in
    subst (λ (n : ℕ). AreNamed n c.args.share.now.booked c.in_ok-seen.seen.batches) (is-stripe g c).1
    (subst (AreNamed stripe.number c.args.share.now.booked) journal named)

pub returns-clause-stranger : goal.returns-clause-stranger
returns-clause-stranger g c =
    let is = subst (λ stripe. IsStripeOf c.args.setup.now c.args.word.0 stripe) c.self.view_is (is-stripe g c) in (
      λ ok. cc,
      λ other. absurd (other is),
    )
