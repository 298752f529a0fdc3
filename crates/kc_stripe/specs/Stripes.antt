-- The stripes of a count behind their locks, as callers see them. They are this project's own.
use Rattle.kc_booking.specs.Setup.{StripeSetup}

-- all that is known of them: how the words are divided
pub record StripesSeen : Type 0 where
  pub setup : StripeSetup
