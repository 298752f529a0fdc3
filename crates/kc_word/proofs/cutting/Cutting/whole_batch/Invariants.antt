use Rattle.std.proofs.Common.{◌≡◌, take}
use Rattle.kc_word.proofs.cutting.Cutting.whole_batch.Given as goal

abbrev pub invariant-loop-part : goal.invariant-loop-part
invariant-loop-part l = l.pieces ≡ take l.part-index l.part-items
