use Rattle.std.proofs.Common.{◌≡◌, ◌≤◌, take}
use Rattle.kc_word.specs.Cutting.{position_total}
use Rattle.kc_word.specs.PackedBatch.{start_of}
use Rattle.kc_word.proofs.batch.Batch.position_count.Given as goal

abbrev pub invariant-loop-end : goal.invariant-loop-end
invariant-loop-end l = record {
  value : l.count ≡ position_total l.k (take l.end-index l.self.pieces);
  most : l.count ≤ l.start;
  begins : l.start ≡ start_of l.end-items l.end-index;
}
