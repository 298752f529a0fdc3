use Rattle.std.proofs.Common.{◌<◌, ◌≤◌, ◌-◌, length}
use Rattle.kc_word.specs.Shared.{values}
use Rattle.kc_gather.specs.Gathering.{HasAllBelow}
use Rattle.kc_gather.proofs.journal.first_missing.Given as goal

abbrev pub invariant-loop-to : goal.invariant-loop-to
invariant-loop-to l = record {
  all : HasAllBelow (values l.journal) l.from;
  not_all : ¬ HasAllBelow (values l.journal) l.to;
  less : l.from < l.to;
  within : l.to ≤ length l.batches;
}

abbrev pub decreases-loop-to : goal.decreases-loop-to
decreases-loop-to l = l.to - l.from
