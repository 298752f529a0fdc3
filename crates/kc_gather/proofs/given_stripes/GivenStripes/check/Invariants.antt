use Rattle.kc_word.specs.Shared.{values}
use Rattle.kc_gather.specs.Gathering.{AreWholeIn}
use Rattle.kc_gather.proofs.given_stripes.GivenStripes.check.Given as goal

abbrev pub invariant-loop-index : goal.invariant-loop-index
invariant-loop-index g l = AreWholeIn l.self.setup.now (values l.self.batches.now) l.self.stripes.now l.from l.index
