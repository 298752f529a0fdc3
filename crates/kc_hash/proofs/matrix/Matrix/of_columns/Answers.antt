use Rattle.std.proofs.Common.{◌≡◌, ◌≤◌, refl, arith, rules, length}
use Rattle.kc_hash.proofs.Copies.{copies_none, copies-take}
use Rattle.kc_hash.proofs.matrix.Matrix.of_columns.Goals as goal

pub loop-index-init : goal.loop-index-init
loop-index-init c = copies_none _ _ _ refl

pub returns-clause-columns : goal.returns-clause-columns
returns-clause-columns c =
    let fits : c.args.bits ≤ 62 = omega arith in
    let full : length c.args.columns ≡ 62 = search rules in
    let long : c.args.bits ≤ length c.args.columns = omega arith in
    copies-take _ _ _ c.loop-index.index long fits (omega arith) c.loop-index.invariant
