use Rattle.kc_run.proofs.CrewLemmas.{well_more}
use Rattle.kc_run.proofs.crew.first_fault.Goals as goal

pub loop-ended-preserved : goal.loop-ended-preserved
loop-ended-preserved g c =
    well_more c.args.results.now c.loop-ended.ended-index c.ended-item.result c.in-Ok.field-0 c.loop-ended.invariant c.loop-ended-test.true c.ended-item.is c.in-Ok.is
