use Rattle.std.proofs.Common.{◌≡◌, ap, sym, ◌∙◌, refl, [], Option, None, Some}
use Rattle.std.specs.Option.{option_to_list}
use Rattle.kc_select.specs.declared.run_walk.CountRun.{CountRun}
use Rattle.kc_select.specs.Profiles.{put_before, runs_from}
use Rattle.kc_select.specs.RunWalks.{runs_behind, runs_with}
use Rattle.kc_select.proofs.run_walk.RunWalk.end.Goals as goal

at_end : (last : Option CountRun) (at : _) → runs_with last at [] ≡ option_to_list last
unfolding put_before runs_from runs_with
at_end None at = refl
at_end (Some run) at = refl

pub returns-clause-runs : goal.returns-clause-runs
returns-clause-runs c =
    ap (λ w. runs_behind w []) (sym c.self.view_is)
    ∙ at_end c.self.inside.last c.self.inside.at
    ∙ ap option_to_list (sym c.take.ensures.value)
