use Rattle.std.proofs.Common.{◌∙◌}
use Rattle.kc_word.specs.Shared.{values}
use Rattle.kc_booking.proofs.StripeRows.{bin_words}
use Rattle.kc_booking.proofs.stripe.Stripe.bin.Goals as goal

pub returns-clause-words : goal.returns-clause-words
returns-clause-words g c =
    rw (← c.self.view_is)
    (c.bin.ensures
    ∙ bin_words c.self.inside.setup c.self.inside.number (values c.self.inside.journal.items) c.self.inside.counted.bins c.args.bin c.self.invariant.0.bins_are c.requires.some c.requires.within)
