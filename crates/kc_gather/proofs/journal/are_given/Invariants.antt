use Rattle.std.proofs.Common.{All, take}
use Rattle.kc_word.specs.Shared.{values}
use Rattle.kc_gather.specs.Gathering.{IsGiven}
use Rattle.kc_gather.proofs.journal.are_given.Given as goal

abbrev pub invariant-loop-batch : goal.invariant-loop-batch
invariant-loop-batch l = All (IsGiven (values l.batches)) (take l.batch-index (values l.journal))
