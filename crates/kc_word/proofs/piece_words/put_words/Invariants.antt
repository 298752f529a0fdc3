use Rattle.std.proofs.Common.{◌≡◌, take}
use Rattle.kc_kmer.specs.Occurrences.{words_of}
use Rattle.kc_word.specs.Cutting.{as_reads}
use Rattle.kc_word.specs.PackedBatch.{start_of}
use Rattle.kc_word.proofs.piece_words.put_words.Given as goal

abbrev pub invariant-loop-end : goal.invariant-loop-end
invariant-loop-end l = record {
  words : l.words.items ≡ words_of l.rule (as_reads (take l.end-index l.batch.pieces));
  begins : l.start ≡ start_of l.end-items l.end-index;
}
