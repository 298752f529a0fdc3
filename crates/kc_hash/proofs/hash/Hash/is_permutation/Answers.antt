use Rattle.std.proofs.Common.{ℕ, List, subst}
use Rattle.kc_hash.specs.Product.{product, StaysBelow, IsOneToOne, IsOnto}
use Rattle.kc_hash.proofs.RowSteps.{one_to_one}
use Rattle.kc_hash.proofs.hash.Hash.is_permutation.Goals as goal

pub returns-clause-stays_below : goal.returns-clause-stays_below
returns-clause-stays_below c =
    let P : List ℕ → Type 0 = λ columns. StaysBelow columns in
    subst P c.self.view_is c.self.invariant.are_inverse.stays

pub returns-clause-one_to_one : goal.returns-clause-one_to_one
returns-clause-one_to_one c =
    let P : List ℕ → Type 0 = λ columns. IsOneToOne columns in
    subst P c.self.view_is (one_to_one c.self.inside.matrix c.self.inside.inverse c.self.invariant.are_inverse)

pub returns-clause-onto : goal.returns-clause-onto
returns-clause-onto c =
    let P : List ℕ → Type 0 = λ columns. IsOnto columns in
    let inverse = c.self.invariant.are_inverse in
    subst P c.self.view_is (λ y below.
    (product c.self.inside.inverse y, inverse.stays_back y below, inverse.undone y (rw (← inverse.same_bits) at below)))
