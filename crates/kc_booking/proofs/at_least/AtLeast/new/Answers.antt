use Rattle.std.proofs.Common.{refl}
use Rattle.kc_booking.proofs.AtLeastLemmas.{at_least_of-nil}
use Rattle.kc_booking.proofs.at_least.AtLeast.new.Goals as goal

pub returns : goal.returns
returns c = at_least_of-nil c.in_ok-numbers.numbers.items 10_001 refl c.in_ok-numbers.ensures.zeros
