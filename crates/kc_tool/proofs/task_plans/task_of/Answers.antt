use Rattle.std.proofs.Common.{◌∙◌, ap, refl, sym, Bor, List, ℕ}
use Rattle.std.specs.Prelude.{option_map}
use Rattle.kc_tool.proofs.task_plans.task_of.Goals as goal

pub returns-in-Some-clause-asked : goal.returns-in-Some-clause-asked
returns-in-Some-clause-asked c =
    let named = sym c.text_of.ensures ∙ ap (option_map (λ (name : Bor (List ℕ)). name.now)) c.in-Some.is in
    rw c.in-Count.is (c.in_ok-options-in-Count.ensures.asked, (_, named))

pub returns-in-Stats-clause-asked : goal.returns-in-Stats-clause-asked
returns-in-Stats-clause-asked c = rw c.in-Stats.is tt

pub returns-in_ok-profile_options-in-Profile-clause-asked : goal.returns-in_ok-profile_options-in-Profile-clause-asked
returns-in_ok-profile_options-in-Profile-clause-asked c =
    rw c.in-Profile.is (c.in_ok-profile_options-in-Profile.ensures.asked, refl)
