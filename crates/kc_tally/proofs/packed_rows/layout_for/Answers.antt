use Rattle.std.proofs.Common.{◌∙◌, ◌-◌, ◌^◌, ◌≤◌, max, subst, get_or, arith}
use Rattle.std.proofs.lemmas.List.{get_or_default}
use Rattle.kc_tally.proofs.PackingSteps.{within-none, within-more, within-all, within-tight}
use Rattle.kc_tally.proofs.Searches.{no_row}
use Rattle.kc_tally.proofs.packed_rows.layout_for.Goals as goal

pub loop-row-preserved : goal.loop-row-preserved
loop-row-preserved c =
    let rows = c.args.rows.now in
    let i = c.loop-row.row-index in
    let row = get_or rows i no_row in
    within-more rows i row c.loop-row-test.true (get_or_default rows i no_row row c.loop-row-test.true) c.requires c.loop-row.invariant
    c.min-least.ensures c.max-greatest.ensures

pub loop-row-init : goal.loop-row-init
loop-row-init c = within-none c.args.rows.now

pub returns-clause-tight : goal.returns-clause-tight
returns-clause-tight c some =
    within-tight c.args.rows.now c.loop-row.row-index c.loop-row.least c.loop-row.greatest c.between.result some c.loop-row.auto.row-index-end
    c.loop-row-test.false c.loop-row.invariant (c.between.ensures.least ∙ c.min.ensures)
    (subst (λ n. 2 ^ (63 - c.between.result.low) ≤ max (c.loop-row.greatest - n) 1) c.min.ensures c.between.ensures.most)

pub returns-clause-least : goal.returns-clause-least
returns-clause-least c k d h =
    let all = within-all c.args.rows.now c.loop-row.row-index c.loop-row.least c.loop-row.greatest c.loop-row-test.false c.loop-row.invariant in
    let lower = all.0 k d h in
    omega (arith, lower, c.between.ensures.least, c.min.ensures)

pub returns-clause-room : goal.returns-clause-room
returns-clause-room c k d h =
    let all = within-all c.args.rows.now c.loop-row.row-index c.loop-row.least c.loop-row.greatest c.loop-row-test.false c.loop-row.invariant in
    let upper = all.1 k d h in
    omega (arith, upper, c.between.ensures.room, c.between.ensures.least)
