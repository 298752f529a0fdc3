use Rattle.std.proofs.Common.{◌≡◌, ◌+◌, vec_len}
use Rattle.std.specs.Prelude.{All}
use Rattle.kc_run.specs.Runs.{IsReady, IsPromised}
use Rattle.kc_run.proofs.crew.start_all.Given as goal

abbrev pub invariant-loop-worker : goal.invariant-loop-worker
invariant-loop-worker g l = record {
  ready : All (λ worker. IsReady l.job.tickets.now l.job.plan worker.seat worker.share) l.workers.items;
  counted : vec_len l.threads + vec_len l.workers ≡ vec_len l.fn.workers;
  promised : All (λ thread. IsPromised l.job.tickets.now l.job.plan thread.promise.tickets.value thread.promise.plan) l.threads.items;
}

abbrev pub decreases-loop-worker : goal.decreases-loop-worker
decreases-loop-worker g l = vec_len l.workers
