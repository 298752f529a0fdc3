use Rattle.kc_booking.proofs.HashValues.{word-fits, high-bits}
use Rattle.kc_booking.proofs.setup.Setup.key_of.Goals as goal

pub forward-requires : goal.forward-requires
forward-requires c = word-fits c.self.inside.rule.k _ _ c.self.invariant.0.word_bits (rw (← c.self.view_is) at c.requires)

pub returns-clause-below : goal.returns-clause-below
returns-clause-below c =
    rw (← c.self.view_is) (high-bits c.self.inside.rule.k c.self.inside.stripe_bits _ _ c.self.invariant.0.word_bits c.self.invariant.0.stripe_bits_few c.forward.ensures.within)
