use Rattle.std.proofs.Common.{◌∙◌, length, get_or, ap, sym, arith}
use Rattle.std.proofs.lemmas.List.{get_or_default}
use Rattle.kc_tally.proofs.PackingSteps.{large-room}
use Rattle.kc_tally.proofs.Searches.{no_row}
use Rattle.kc_tally.proofs.packed_rows.large_rows.Goals as goal

pub push_reserved-requires : goal.push_reserved-requires
push_reserved-requires c =
    let rows = c.args.rows.now in
    let i = c.loop-row.row-index in
    let row = get_or rows i no_row in
    let less = large-room c.args.layout rows i row c.loop-row-test.true (get_or_default rows i no_row row c.loop-row-test.true)
    (sym c.is_large.ensures ∙ c.if-is_large.true) in
    let long = ap length c.loop-row.invariant.all in
    omega (arith, less, long, c.loop-row.invariant.room, c.loop-row.large.ok.0)
