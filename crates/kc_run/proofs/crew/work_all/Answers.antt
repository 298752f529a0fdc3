use Rattle.std.proofs.Common.{⊎_elim, vec_len}
use Rattle.std.proofs.lemmas.Result.{err_from_is_err_and}
use Rattle.kc_run.specs.Runs.{HasWorked, IsRunFault, MayEverBeFull}
use Rattle.kc_run.specs.declared.worker.Worker.{Worker}
use Rattle.kc_run.proofs.CrewLemmas.{all_kept, holds_of_first}
use Rattle.kc_run.proofs.FaultLemmas.{fault_of_memory}
use Rattle.kc_run.proofs.crew.work_all.Goals as goal

pub returns-clause-worked : goal.returns-clause-worked
returns-clause-worked g c =
    let job = c.args.job.now in
    all_kept (λ (worker : Worker g.row.N.Denot). HasWorked job.tickets.now job.plan worker.seat worker.share) c.in_ok-ended.ended.items c.in_ok-results.results.items c.in_ok-ended.ensures.well
    c.in_ok-results.ensures.1.kept

pub returns-in_err-ended-clause-refused : goal.returns-in_err-ended-clause-refused
returns-in_err-ended-clause-refused g c =
    let MayBeFull = MayEverBeFull g.N.Terms.may_be_full in
    let n = vec_len c.args.workers in
    let stripes = c.args.job.now.plan.stripes in
    let fault = c.in_err-ended.field-0.0 in
    let p = err_from_is_err_and c.from_residual-in_err-ended.result c.from_residual-in_err-ended.ensures.1 in
    rw (p.1, p.2)
    (⊎_elim
    (λ first. holds_of_first (IsRunFault MayBeFull n stripes) c.in_ok-results.results.items fault c.in_ok-results.ensures.1.faults first)
    (λ memory. fault_of_memory MayBeFull n stripes fault memory.0)
    c.in_err-ended.ensures.first)
