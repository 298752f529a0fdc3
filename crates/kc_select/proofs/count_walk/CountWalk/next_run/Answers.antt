use Rattle.std.proofs.Common.{◌≡◌, ◌≤◌, [], length, ap, sym, subst, ◌∙◌, option_to_list}
use Rattle.std.proofs.lemmas.Bool.{leb-true}
use Rattle.kc_select.specs.CountWalks.{runs_left}
use Rattle.kc_select.proofs.CountWalkLemmas.{runs-end, runs-none, last-some, last-none}
use Rattle.kc_select.proofs.count_walk.CountWalk.next_run.Goals as goal
use Rattle.kc_select.proofs.count_walk.CountWalk.next_run.Goals.{After-end}

done : (c : After-end) → length c.self.inside.read.now.bases ≤ c.self.inside.at
done c =
    subst (λ w. length w.read.bases ≤ w.taken) (sym c.self.view_is)
    (leb-true (length c.loop-self.self.read.bases) c.loop-self.self.taken (sym c.is_done.ensures ∙ c.loop-self-test.false))

before : (c : After-end) → runs_left c.args.self.now ≡ option_to_list c.end.result
before c =
    sym c.loop-self.invariant
    ∙ ap runs_left (sym c.self.view_is)
    ∙ runs-end _ (done c)
    ∙ c.end.ensures.runs

behind : (c : After-end) → runs_left (record {
  tally = c.self.inside.index.now;
  rule = c.self.inside.rolled.rule;
  read = c.self.inside.read.now;
  taken = c.self.inside.at;
  runs = c.end.new.self;
}) ≡ []
behind c = runs-end _ (done c) ∙ runs-none c.end.new.self c.end.ensures.last

pub returns-clause-some : goal.returns-clause-some
returns-clause-some c =
    let here = (goal.at.returns-clause-some c).After-end in
    last-some c.end.result _ _ (before here) (behind here)

pub returns-clause-none : goal.returns-clause-none
returns-clause-none c =
    let here = (goal.at.returns-clause-none c).After-end in
    last-none c.end.result _ _ (before here) (behind here)
