use Rattle.std.proofs.Common.{◌∙◌, ap}
use Rattle.kc_word.specs.Cutting.{NumberedPieces}
use Rattle.kc_word.specs.Shared.{values}
use Rattle.kc_booking.proofs.Lawful.{booked-told}
use Rattle.kc_booking.proofs.stripe.Stripe.has_booked.Goals as goal

pub returns : goal.returns
returns g c =
    let known = c.contains.ensures ∙ c.self.invariant.1.known_are c.number.result in
    let number = c.number.ensures ∙ ap (λ (b : NumberedPieces). b.number) c.deref.ensures in
    rw (← c.self.view_is) (booked-told (values c.self.inside.journal.items) c.contains.result known number)
