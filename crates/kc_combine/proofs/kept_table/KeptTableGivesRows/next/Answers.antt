use Rattle.std.proofs.Common.{[], ◌∷◌, ◌++◌, arith, refl, sym}
use Rattle.kc_tally.proofs.PackingSteps.{word-small}
use Rattle.kc_combine.proofs.KeptTableLemmas.{is_next, one_given}
use Rattle.kc_combine.proofs.kept_table.KeptTableGivesRows.next.Goals as goal

pub invariant_of-self-2 : goal.invariant_of-self-2
invariant_of-self-2 c =
    let given = c.self.invariant in
    (given.0 ++ c.in-Some.row ∷ [], one_given _ given.0 _ c.in-Some.row _ (rw c.in-Some.ensures.steps at given.1))

pub returns-clause-row : goal.returns-clause-row
returns-clause-row c = λ rows given.
    one_given _ rows _ c.in-Some.row _ (rw c.in-Some.ensures.steps at (rw (sym c.self.view_is) at given))

pub returns-clause-rises : goal.returns-clause-rises
returns-clause-rises c =
    let given = c.self.invariant in
    let next = is_next _ given.0 _ c.in-Some.row _ (rw c.in-Some.ensures.steps at given.1) in
    let small = word-small _ _ (omega (arith, c.get-bases.ensures.fits, c.k.ensures)) next.below in
    rw (sym c.self.view_is) (next.least, small, refl)

pub returns-clause-word : goal.returns-clause-word
returns-clause-word c =
    let given = c.self.invariant in
    let next = is_next _ given.0 _ c.in-Some.row _ (rw c.in-Some.ensures.steps at given.1) in
    rw (sym c.self.view_is) next.below

pub returns-clause-count : goal.returns-clause-count
returns-clause-count c =
    let given = c.self.invariant in
    let next = is_next _ given.0 _ c.in-Some.row _ (rw c.in-Some.ensures.steps at given.1) in (next.present, next.most)

pub returns-clause-forward : goal.returns-clause-forward
returns-clause-forward c =
    let given = c.self.invariant in
    let next = is_next _ given.0 _ c.in-Some.row _ (rw c.in-Some.ensures.steps at given.1) in
    let least = next.least in
    rw (sym c.self.view_is) (omega (arith, least))
