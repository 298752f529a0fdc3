use Rattle.std.proofs.Common.{subst}
use Rattle.kc_booking.specs.Setup.{DividesWords}
use Rattle.kc_booking.proofs.HashValues.{divides}
use Rattle.kc_booking.proofs.setup.Setup.divides_words.Goals as goal

pub returns : goal.returns
returns c =
    let hash = c.is_permutation.ensures in
    subst DividesWords c.self.view_is (divides _ c.self.invariant.0 hash.stays_below hash.one_to_one hash.onto)
