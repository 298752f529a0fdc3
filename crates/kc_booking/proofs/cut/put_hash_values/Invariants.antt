use Rattle.std.proofs.Common.{◌^◌, ◌<◌, length, All}
use Rattle.kc_hash.specs.Product.{product}
use Rattle.kc_booking.proofs.Parts.{IsMappedTo}
use Rattle.kc_booking.proofs.cut.put_hash_values.Given as goal

abbrev pub invariant-loop-word : goal.invariant-loop-word
invariant-loop-word l = record {
  fit : All (λ word. word < 2 ^ length l.tables) l.initial.word-items;
  hashed : IsMappedTo (λ word. product l.tables word) l.initial.word-items l.word-items l.word-index;
}
