use Rattle.std.proofs.Common.{◌≡◌, ◌≤◌, ◌^◌, ◌++◌, All, length}
use Rattle.kc_report.proofs.PieceLemmas.{all_rows}
use Rattle.kc_report.proofs.row_pieces.cut.Given as goal

abbrev pub invariant-loop-piece : goal.invariant-loop-piece
invariant-loop-piece l = record {
  all : all_rows l.pieces.items ++ l.rows ≡ l.fn.rows;
  some : All (λ piece. 1 ≤ length piece) l.pieces.items;
  few : All (λ piece. length piece ≤ 2 ^ 13) l.pieces.items;
}

abbrev pub decreases-loop-piece : goal.decreases-loop-piece
decreases-loop-piece l = length l.rows
