use Rattle.std.proofs.Common.{◌≡◌, count_by, take}
use Rattle.std.specs.Prelude.{nat_lt}
use Rattle.kc_word.specs.Shared.{values}
use Rattle.kc_gather.proofs.journal.count_below.Given as goal

abbrev pub invariant-loop-batch : goal.invariant-loop-batch
invariant-loop-batch l = l.below ≡ count_by (λ batch. nat_lt batch.number l.number) (take l.batch-index (values l.journal))
