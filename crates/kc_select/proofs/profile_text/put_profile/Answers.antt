use Rattle.std.proofs.lemmas.Result.{err_from_is_err_and}
use Rattle.kc_select.specs.Profiles.{name_of}
use Rattle.kc_select.specs.CountWalks.{runs_left}
use Rattle.kc_select.proofs.TextLemmas.{drains_both, drains_begins}
use Rattle.kc_select.proofs.ProfileLemmas.{line-put, line-begun, lines-end, drains_as}
use Rattle.kc_select.proofs.profile_text.put_profile.Goals as goal

pub runs-preserved : goal.runs-preserved
runs-preserved g c =
    let name = name_of c.args.title.now in
    record {
      name = c.runs.invariant.name;
      drained = drains_both c.runs.invariant.drained
          (line-put c.runs.block name c.in-Some.run' (runs_left c.runs.walk) (runs_left c.next_run.new.self) c.in-Some.ensures.some
          (rw c.runs.invariant.name at c.in_ok-put_run.ensures.ok));
    }

pub returns-in_err-put_run-clause-err : goal.returns-in_err-put_run-clause-err
returns-in_err-put_run-clause-err g c =
    let name = name_of c.args.title.now in
    let p = err_from_is_err_and c.from_residual.result c.from_residual.ensures.1 in rw p.1
    (drains_begins c.runs.invariant.drained
    (line-begun c.runs.block name c.in-Some.run' (runs_left c.runs.walk) (runs_left c.next_run.new.self) c.in-Some.ensures.some
    (rw c.runs.invariant.name at c.in_err-put_run.ensures.err)))

pub returns-clause-ok : goal.returns-clause-ok
returns-clause-ok g c =
    let name = name_of c.args.title.now in
    drains_as (lines-end name c.runs.block (runs_left c.runs.walk) c.in_default.ensures.none.0) c.runs.invariant.drained
