use Rattle.std.proofs.Common.{◌++◌, ◌∷◌, []}
use Rattle.kc_combine.proofs.AheadsLemmas.{takes_head, has_next}
use Rattle.kc_combine.proofs.ahead.Ahead.take.Goals as goal

pub returns-clause-taken : goal.returns-clause-taken
returns-clause-taken g c = λ rows taken. let head = c.in-Some.row in
    let Gave = g.R.GivesRows.gave in
    let Whole = g.R.GivesRows.gave_all in
    let given = rw c.in-Some.is at taken in
    let order = g.met.R.GivesRows.ordered _ _ given in (
      rows ++ head ∷ [],
      takes_head _ c.args.word rows head c.if-row-word.false order,
      has_next Gave Whole c.next.new.self c.in_ok-self.field-0 (rows ++ head ∷ [])
          (c.in_ok-self.ensures.row _ given) (c.in_ok-self.ensures.end _ given),
    )
