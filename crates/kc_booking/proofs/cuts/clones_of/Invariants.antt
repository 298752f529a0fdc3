use Rattle.std.proofs.Common.{◌≡◌, take}
use Rattle.kc_word.specs.Shared.{values}
use Rattle.kc_booking.proofs.cuts.clones_of.Given as goal

abbrev pub invariant-loop-batch : goal.invariant-loop-batch
invariant-loop-batch l = values l.more.items ≡ values (take l.batch-index l.batches)
