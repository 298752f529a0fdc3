use Rattle.std.proofs.Common.{◌∙◌, get_or, sym, arith}
use Rattle.std.proofs.lemmas.List.{get_or_default}
use Rattle.kc_tally.proofs.PackingSteps.{large-long, large-room}
use Rattle.kc_tally.proofs.Searches.{no_row}
use Rattle.kc_tally.proofs.packed_rows.large_count.Goals as goal

pub overflow_add-count : goal.overflow_add-count
overflow_add-count c =
    let rows = c.args.rows.now in
    let i = c.loop-row.row-index in
    let row = get_or rows i no_row in
    let less = large-room c.args.layout rows i row c.loop-row-test.true (get_or_default rows i no_row row c.loop-row-test.true)
    (sym c.is_large.ensures ∙ c.if-is_large.true) in
    let all = large-long c.args.layout rows in
    record { fits = omega (arith, less, all, c.loop-row.invariant) }
