use Rattle.std.proofs.Common.{Some, ap, ◌∙◌, arith}
use Rattle.std.proofs.lemmas.List.Elements.{All-pop, All-push, All-same}
use Rattle.kc_run.specs.Runs.{IsReady, IsPromised}
use Rattle.kc_run.specs.declared.worker.Worker.{Worker}
use Rattle.kc_run.specs.declared.crew.Working.{Working}
use Rattle.kc_run.proofs.crew.start_all.Goals as goal

pub overflow_cast-number : goal.overflow_cast-number
overflow_cast-number g c = omega (arith, c.len-number.ensures, c.loop-worker.invariant.counted, c.requires.few)

pub spawn_with-requires-clause-runs : goal.spawn_with-requires-clause-runs
spawn_with-requires-clause-runs g c κs within =
    let job = c.args.job.now in (
      c.requires.job,
      (All-pop (λ (worker : Worker g.row.N.Denot). IsReady job.tickets.now job.plan worker.seat worker.share) _ _ (Some c.in-Some.worker) c.in-Some.ensures.items c.loop-worker.invariant.ready).1,
    )

pub loop-worker-preserved : goal.loop-worker-preserved
loop-worker-preserved g c =
    let i = c.loop-worker.invariant in
    let job = c.args.job.now in
    let items = c.in_ok-push-in-Ok.ensures.items in
    record {
      ready = (All-pop (λ (worker : Worker g.row.N.Denot). IsReady job.tickets.now job.plan worker.seat worker.share) _ _ (Some c.in-Some.worker) c.in-Some.ensures.items i.ready).0;
      counted = omega (arith, c.in_ok-push-in-Ok.ensures.len, c.in-Some.ensures.cases, i.counted);
      promised = All-same (λ thread. IsPromised job.tickets.now job.plan thread.promise.tickets.value thread.promise.plan) c.push.new.self.items _ items
          (All-push (λ thread. IsPromised job.tickets.now job.plan thread.promise.tickets.value thread.promise.plan) c.loop-worker.threads.items c.in-Ok.thread i.promised
          (ap (λ (working : Working). working.tickets.value) c.in-Ok.ensures.ok ∙ c.of.ensures, ap (λ (working : Working). working.plan) c.in-Ok.ensures.ok));
    }
