use Rattle.std.proofs.Common.{◌≤◌, arith}
use Rattle.std.proofs.lemmas.Result.{err_from_is_err_and}
use Rattle.kc_tool.proofs.SourcesLemmas.{few_for_run, small_for_run}
use Rattle.kc_tool.proofs.counted_sources.batches_given.Goals as goal

pub returns-clause-few : goal.returns-clause-few
returns-clause-few g c =
    let some = rw c.k.ensures at c.get-bases.ensures.some in
    let room : 1 ≤ c.max-size.result = omega (arith, c.max-size.ensures, c.batch.ensures.value, c.batch.ensures.some) in
    few_for_run some room c.in_ok-cutting.ensures.cut.cut c.in_ok-batches.batches.items c.in_ok-batches.ensures.cutting

pub returns-clause-small : goal.returns-clause-small
returns-clause-small g c =
    let some = rw c.k.ensures at c.get-bases.ensures.some in
    let room : 1 ≤ c.max-size.result = omega (arith, c.max-size.ensures, c.batch.ensures.value, c.batch.ensures.some) in
    let small = small_for_run {rule = c.rule-rule.result} some room c.in_ok-cutting.ensures.cut.cut c.in_ok-batches.batches.items c.in_ok-batches.ensures.cutting in
    rw c.rule-rule.ensures at small

pub returns-in_err-cutting-clause-fault : goal.returns-in_err-cutting-clause-fault
returns-in_err-cutting-clause-fault g c =
    let again = c.from_residual in
    let p = err_from_is_err_and again.result again.ensures.1 in
    rw (p.1, p.2) (c.in_err-cutting.ensures.fault c.args.options.now)
