use Rattle.std.proofs.Common.{◌≡◌, take}
use Rattle.kc_word.specs.OpenCutting.{HasTaken}
use Rattle.kc_word.proofs.cutting.cut.Given as goal

abbrev pub invariant-loop-piece : goal.invariant-loop-piece
invariant-loop-piece l = record {
  k : l.cutting.k ≡ l.fn.k;
  size : l.cutting.size ≡ l.fn.size;
  taken : HasTaken l.cutting (take l.piece-index l.piece-items);
}
