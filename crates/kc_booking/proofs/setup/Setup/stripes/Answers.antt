use Rattle.std.proofs.Common.{arith}
use Rattle.kc_booking.proofs.HashValues.{stripes-shifted, stripes-few}
use Rattle.kc_booking.proofs.setup.Setup.stripes.Goals as goal

pub returns-clause-at_most : goal.returns-clause-at_most
returns-clause-at_most c =
    omega (arith, stripes-shifted c.self.inside.stripe_bits c.self.invariant.0.stripe_bits_at_most, stripes-few c.self.inside.stripe_bits c.self.invariant.0.stripe_bits_at_most)
