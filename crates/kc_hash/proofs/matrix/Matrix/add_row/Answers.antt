use Rattle.std.proofs.Common.{ℕ, ◌≡◌, ◌∙◌, ◌<◌, length, map, take, get_or, ap, sym, arith}
use Rattle.std.proofs.lemmas.List.{take-map}
use Rattle.kc_hash.specs.Inversion.{columns-length}
use Rattle.kc_hash.specs.Elimination.{row_added}
use Rattle.kc_hash.proofs.RowSteps.{row_taken, row_passed, added_more, added_all, matrix_added}
use Rattle.kc_hash.proofs.matrix.Matrix.add_row.Goals as goal
use Rattle.kc_hash.proofs.matrix.Matrix.add_row.Goals.{then-column-row-eq1, else-column-row-eq1}

pub loop-column-preserved : goal.loop-column-preserved
loop-column-preserved c =
    let inside : c.loop-column.column-index < length c.self.inside.columns = omega arith in
    let column : ℕ = get_or c.loop-column.column-items c.loop-column.column-index 0 in
    elim c.if-column-row-eq1.branch [
      | then-column-row-eq1 w ↦ w.column-items-is ∙ added_more c.args.row c.args.rows c.self.inside.columns c.loop-column.column-items c.loop-column.column-index _
          (record { inside = inside; so_far = c.loop-column.invariant }) (row_taken c.args.row c.args.rows column w.if-column-row-eq1.true)
      | else-column-row-eq1 w ↦ w.column-items-is ∙ added_more c.args.row c.args.rows c.self.inside.columns c.loop-column.column-items c.loop-column.column-index _
          (record { inside = inside; so_far = c.loop-column.invariant }) (row_passed c.args.row c.args.rows column w.if-column-row-eq1.false)
    ]

pub invariant_of-self : goal.invariant_of-self
invariant_of-self c =
    let all : c.loop-column.column-items ≡ map (row_added c.args.row c.args.rows) c.self.inside.columns =
    added_all c.args.row c.args.rows c.self.inside.columns c.loop-column.column-items c.loop-column.column-index (omega arith) c.loop-column.invariant in
    let wide : length c.args.self.now ≡ c.self.inside.bits =
    ap length (sym c.self.view_is) ∙ columns-length c.self.inside.bits c.self.inside.columns c.self.invariant in
    rw all (matrix_added c.self.inside.bits c.args.row c.args.rows c.self.inside.columns c.self.invariant
    (rw (← wide) c.requires.rows_within))

pub returns : goal.returns
returns c =
    ap (take c.self.inside.bits)
    (added_all c.args.row c.args.rows c.self.inside.columns c.loop-column.column-items c.loop-column.column-index (omega arith) c.loop-column.invariant)
    ∙ take-map (row_added c.args.row c.args.rows) c.self.inside.bits c.self.inside.columns
    ∙ ap (map (row_added c.args.row c.args.rows)) c.self.view_is
