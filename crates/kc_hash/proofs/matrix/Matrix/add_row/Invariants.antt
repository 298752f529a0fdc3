use Rattle.std.proofs.Common.{◌≡◌, ◌++◌, map, take, drop}
use Rattle.kc_hash.specs.Elimination.{row_added}
use Rattle.kc_hash.proofs.matrix.Matrix.add_row.Given as goal

abbrev pub invariant-loop-column : goal.invariant-loop-column
invariant-loop-column l =
    l.column-items ≡ map (row_added l.row l.rows) (take l.column-index l.initial.column-items) ++ drop l.column-index l.initial.column-items
