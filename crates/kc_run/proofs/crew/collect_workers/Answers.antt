use Rattle.std.proofs.Common.{List, length, refl, subst, rules, inl, inr}
use Rattle.std.specs.Prelude.{Result}
use Rattle.std.proofs.lemmas.Iterator.Adapters.{YieldsList-from_vec}
use Rattle.std.proofs.lemmas.Iterator.Consumers.{YieldsList-turn}
use Rattle.std.proofs.lemmas.Result.{err_from_is_err_and}
use Rattle.kc_run.specs.declared.run_fault.RunFault.{RunFault}
use Rattle.kc_run.specs.declared.worker.Worker.{Worker}
use Rattle.kc_run.specs.Runs.{AllEndedWell, IsFirstFault}
use Rattle.kc_run.proofs.CrewLemmas.{no_fault_there}
use Rattle.kc_run.proofs.crew.collect_workers.Goals as goal

pub returns-in-Some-clause-first : goal.returns-in-Some-clause-first
returns-in-Some-clause-first g c =
    inl (subst (λ (results : List (Result (Worker g.row.N.Denot) RunFault)). IsFirstFault results c.in-Some.fault) c.deref.ensures.value c.in-Some.ensures)

pub returns-in_err-workers-clause-first : goal.returns-in_err-workers-clause-first
returns-in_err-workers-clause-first g c =
    let p = err_from_is_err_and c.from_residual.result c.from_residual.ensures.1 in
    let all : AllEndedWell c.args.results.items = subst AllEndedWell c.deref.ensures.value c.in_default.ensures in
    rw (p.1, p.2) (inr (refl, all))

pub unreachable-requires : goal.unreachable-requires
unreachable-requires g c =
    let all : AllEndedWell c.args.results.items = subst AllEndedWell c.deref.ensures.value c.in_default.ensures in
    let road = YieldsList-from_vec {s = c.into_iter-ended-iterator.result} c.args.results.items (search rules) (search rules) in
    let turn = YieldsList-turn road c.loop-ended.yielded c.loop-ended.ended-iterator c.loop-ended.yielded_by c.next.result c.next.new.self c.in-Some-ended.ended c.in-Some-ended.is c.next.ensures.steps in
    no_fault_there c.args.results.items (length c.loop-ended.yielded) c.in-Some-ended.ended (all (length c.loop-ended.yielded) turn.0) turn.1 c.in_default-ended.is

pub returns-in_default-push-clause-first : goal.returns-in_default-push-clause-first
returns-in_default-push-clause-first g c =
    let all : AllEndedWell c.args.results.items = subst AllEndedWell c.deref.ensures.value c.in_default.ensures in
    inr (refl, all)
