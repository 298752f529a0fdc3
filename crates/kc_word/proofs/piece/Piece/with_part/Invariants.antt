use Rattle.kc_word.proofs.Clipping.{IsAppending}
use Rattle.kc_word.proofs.piece.Piece.with_part.Given as goal

abbrev pub invariant-loop-n : goal.invariant-loop-n
invariant-loop-n l = IsAppending l.initial.runs.items l.others l.runs.items l.at l.initial.n l.n l.from l.to
