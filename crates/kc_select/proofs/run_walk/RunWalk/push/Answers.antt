use Rattle.std.proofs.Common.{◌≡◌, ◌++◌, ◌∷◌, ◌+◌, None, Some, IfSome, ap, sym, subst, ◌∙◌}
use Rattle.std.specs.Option.{option_to_list}
use Rattle.kc_select.specs.RunWalks.{runs_behind, runs_with}
use Rattle.kc_select.proofs.RunLemmas.{gap-step, same-step, other-step, first-step}
use Rattle.kc_select.proofs.run_walk.RunWalk.push.Goals as goal

pub returns-in_default-clause-runs : goal.returns-in_default-clause-runs
returns-in_default-clause-runs c counts =
    let last = c.self.inside.last in
    let at = c.self.inside.at in
    ap (λ w. runs_behind w (c.args.count ∷ counts)) (sym c.self.view_is)
    ∙ ap (λ o. runs_with last at (o ∷ counts)) c.in_default.is
    ∙ gap-step last at c.self.invariant counts
    ∙ ap (λ o. option_to_list o ++ runs_with None (at + 1) counts) (sym c.take.ensures.value)
    ∙ ap (λ o. option_to_list c.take.result ++ runs_with o (at + 1) counts) (sym c.take.ensures.after)

pub returns-in_default-last-clause-runs : goal.returns-in_default-last-clause-runs
returns-in_default-last-clause-runs c counts =
    let at = c.self.inside.at in
    ap (λ w. runs_behind w (c.args.count ∷ counts)) (sym c.self.view_is)
    ∙ ap (λ o. runs_with c.self.inside.last at (o ∷ counts)) c.in-Some.is
    ∙ ap (λ o. runs_with o at (Some c.in-Some.count ∷ counts)) c.in_default-last.is
    ∙ first-step at c.in-Some.count counts

pub returns-then-run-count-clause-runs : goal.returns-then-run-count-clause-runs
returns-then-run-count-clause-runs c counts =
    let at = c.self.inside.at in
    let run = c.in-Some-last.run' in
    ap (λ w. runs_behind w (c.args.count ∷ counts)) (sym c.self.view_is)
    ∙ ap (λ o. runs_with c.self.inside.last at (o ∷ counts)) c.in-Some.is
    ∙ ap (λ o. runs_with o at (Some c.in-Some.count ∷ counts)) c.in-Some-last.is
    ∙ same-step run at c.in-Some.count
    (subst (λ o. IfSome o (λ r. r.end ≡ at)) c.in-Some-last.is c.self.invariant) c.if-run-count.true counts

pub returns-clause-runs : goal.returns-clause-runs
returns-clause-runs c counts =
    let at = c.self.inside.at in
    ap (λ w. runs_behind w (c.args.count ∷ counts)) (sym c.self.view_is)
    ∙ ap (λ o. runs_with c.self.inside.last at (o ∷ counts)) c.in-Some.is
    ∙ ap (λ o. runs_with o at (Some c.in-Some.count ∷ counts)) c.in-Some-last.is
    ∙ other-step c.in-Some-last.run' at c.in-Some.count c.if-run-count.false counts
