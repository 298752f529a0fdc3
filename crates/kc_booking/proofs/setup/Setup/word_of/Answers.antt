use Rattle.kc_booking.proofs.HashValues.{word-StandsAt}
use Rattle.kc_booking.proofs.setup.Setup.word_of.Goals as goal

pub back-requires : goal.back-requires
back-requires c = rw (← c.self.view_is) at c.hash_value_at.ensures.within

pub returns-clause-found : goal.returns-clause-found
returns-clause-found c =
    let stands = rw (← c.self.view_is) at c.hash_value_at.ensures.stands in
    rw (← c.self.view_is) (stands c.back.result c.back.ensures.within c.back.ensures.hashed)

pub returns-clause-only : goal.returns-clause-only
returns-clause-only c = λ word at.
    let here = rw (← c.self.view_is) at at in
    let hashed = rw (← c.self.view_is) at c.hash_value_at.ensures.hashed in
    c.back.ensures.only word (word-StandsAt _ _ _ word c.self.invariant.0 here) (hashed word here)
