use Rattle.std.proofs.lemmas.List.{length-map}
use Rattle.kc_word.specs.Shared.{values}
use Rattle.kc_run.proofs.FaultLemmas.{fault_of_refusal}
use Rattle.kc_run.proofs.GatheringLemmas.{never_missing}
use Rattle.kc_run.proofs.whole_run.gather_summary.Goals as goal

pub of_gathering-requires : goal.of_gathering-requires
of_gathering-requires g c =
    never_missing _ (values c.args.count.now.batches.now) c.in-Err.fault (length-map c.args.count.now.batches.now (λ batch. batch.value)) c.requires.counted c.in-Err.ensures.refused

pub returns-in-Err-clause-refused : goal.returns-in-Err-clause-refused
returns-in-Err-clause-refused g c =
    fault_of_refusal _ _ _ _ c.in-Err.fault c.of_gathering.result c.requires.counted.one_each c.in-Err.ensures.refused c.of_gathering.ensures
