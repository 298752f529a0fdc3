use Rattle.std.proofs.Common.{rules}
use Rattle.kc_booking.proofs.HashValues.{asked_for, hash_value_at-whole, hash_value_at-fits, hash_value_at-fits_64, StandsAt-hashed, product-StandsAt}
use Rattle.kc_booking.proofs.setup.Setup.hash_value_at.Goals as goal

pub overflow_add-result : goal.overflow_add-result
overflow_add-result c =
    let fits = hash_value_at-fits_64 _ c.args.stripe c.args.key (asked_for _ _ _ _ c.self.view_is c.self.invariant.0 c.requires.stripe c.requires.key) in
    search rules

pub returns-clause-within : goal.returns-clause-within
returns-clause-within c =
    rw (← c.self.view_is) (hash_value_at-fits _ _ _ (asked_for _ _ _ _ c.self.view_is c.self.invariant.0 c.requires.stripe c.requires.key))

pub returns-clause-stands : goal.returns-clause-stands
returns-clause-stands c =
    rw (← c.self.view_is) (λ word below hashed. StandsAt-hashed _ _ _ word (asked_for _ _ _ _ c.self.view_is c.self.invariant.0 c.requires.stripe c.requires.key) below hashed)

pub returns-clause-hashed : goal.returns-clause-hashed
returns-clause-hashed c =
    rw (← c.self.view_is) (λ word at. product-StandsAt _ _ _ word (asked_for _ _ _ _ c.self.view_is c.self.invariant.0 c.requires.stripe c.requires.key) at)

pub returns-clause-value : goal.returns-clause-value
returns-clause-value c =
    rw (← c.self.view_is) (hash_value_at-whole _ _ _ (asked_for _ _ _ _ c.self.view_is c.self.invariant.0 c.requires.stripe c.requires.key))
