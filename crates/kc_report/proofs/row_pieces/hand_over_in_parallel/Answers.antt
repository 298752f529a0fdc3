use Rattle.std.proofs.Common.{◌≡◌, ◌∙◌, ◌<◌, ◌^◌, All, sym, subst}
use Rattle.kc_tally.specs.declared.row.Row.{Row}
use Rattle.kc_report.proofs.PieceLemmas.{all_rows, All-pieces}
use Rattle.kc_report.proofs.row_pieces.hand_over_in_parallel.Goals as goal

pub hand_over_pieces-requires-clause-below : goal.hand_over_pieces-requires-clause-below
hand_over_pieces-requires-clause-below g c κs within =
    let tally = c.args.tally.now in
    let rows : all_rows c.in-Ok.work.pieces.items ≡ tally.rows = c.in-Ok.ensures.rows ∙ c.rows.ensures.rows in
    rw c.k.ensures
    (All-pieces (λ (row : Row). row.word < 4 ^ tally.k) c.in-Ok.work.pieces.items
    (subst (All (λ (row : Row). row.word < 4 ^ tally.k)) (sym rows) c.rows.ensures.lawful.ordered.words))
