use Rattle.std.proofs.Common.{◌%◌, ◌^◌, ◌∙◌, ap}
use Rattle.kc_booking.proofs.HashValues.{word-fits, low-bits}
use Rattle.kc_booking.proofs.setup.Setup.stripe_of.Goals as goal

pub forward-requires : goal.forward-requires
forward-requires c = word-fits c.self.inside.rule.k _ _ c.self.invariant.0.word_bits (rw (← c.self.view_is) at c.requires)

pub returns-clause-value : goal.returns-clause-value
returns-clause-value c =
    rw (← c.self.view_is)
    (low-bits c.forward.result c.self.inside.stripe_bits c.self.invariant.0.stripe_bits_at_most ∙ ap (λ x. x % 2 ^ c.self.inside.stripe_bits) c.forward.ensures.product)
