use Rattle.std.proofs.Common.{◌≡◌, ◌∙◌, length, vec_len, rules}
use Rattle.kc_run.proofs.CrewLemmas.{all_started}
use Rattle.kc_run.proofs.crew.fn.work_all.scope.Goals as goal

pub returns : goal.returns
returns g c =
    let job = c.captures.job.now in
    let started = c.in_ok-started.ensures in
    let results = c.in_ok-results.ensures in
    let long : length c.in_ok-results.results.items ≡ vec_len c.in_ok-results.results = search rules in
    record {
      kept = results.kept job.tickets.now job.plan started.promised;
      faults = results.faults job.tickets.now job.plan (vec_len c.captures.workers) started.promised started.below;
      all = all_started c.in_ok-started.started.refused (vec_len c.in_ok-started.started.threads) (vec_len c.captures.workers)
          (λ none. long ∙ results.all none) results.refused started.all;
    }
