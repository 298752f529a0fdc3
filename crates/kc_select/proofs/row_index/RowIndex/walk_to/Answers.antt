use Rattle.std.proofs.Common.{◌∙◌, ◌/◌, sym, subst, arith}
use Rattle.kc_select.specs.LastRows.{AreLast}
use Rattle.kc_select.proofs.row_index.RowIndex.walk_to.Goals as goal

pub returns-then-number-len-clause-last : goal.returns-then-number-len-clause-last
returns-then-number-len-clause-last c =
    let all = c.self.inside.tally.now.rows in
    let walk = subst (AreLast all) (sym (c.second_walk.ensures ∙ c.index.ensures))
    (c.self.invariant.1 (c.args.place / 1024) c.index.result.now (omega arith)) in
    subst (λ tally. AreLast tally.rows c.second_walk.result) c.self.view_is walk
