use Rattle.std.proofs.Common.{refl}
use Rattle.std.proofs.lemmas.Result.{err_from_is_err_and}
use Rattle.kc_tool.proofs.GivenLemmas.{keeps_all}
use Rattle.kc_tool.proofs.selected_sources.select_given.Goals as goal

pub returns-in_err-selector : goal.returns-in_err-selector
returns-in_err-selector g c =
    let p = err_from_is_err_and c.from_residual.result c.from_residual.ensures.1 in
    record {
      selects = rw (p.1, p.2) (refl, refl);
      kept = keeps_all g.R.Source.seen g.F.Source.seen c.args.sources.now;
    }

pub returns-clause-selects : goal.returns-clause-selects
returns-clause-selects g c = rw c.in_ok-selector.ensures at c.select_all.ensures.selects
