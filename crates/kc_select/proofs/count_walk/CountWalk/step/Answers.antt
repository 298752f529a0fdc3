use Rattle.std.proofs.Common.{◌+◌, ◌-◌, ◌<◌, ◌++◌, length, ap, sym, ◌∙◌, subst, arith, refl, option_to_list}
use Rattle.kc_word.specs.Walking.{IsNext}
use Rattle.kc_word.proofs.Cleaning.{length-cleaned}
use Rattle.kc_word.proofs.UsableLemmas.{usable_code-cleaned}
use Rattle.kc_select.specs.CountWalks.{CountWalking, IsCountWalking, place_in, runs_left}
use Rattle.kc_select.proofs.CountWalkLemmas.{taken-word, counted, runs-early, runs-step}
use Rattle.kc_select.proofs.count_walk.CountWalk.step.Goals as goal
use Rattle.kc_select.proofs.count_walk.CountWalk.step.Goals.{After-usable_code-code}

-- the walk before
abbrev old : After-usable_code-code → CountWalking
old c = record {
  tally = c.self.inside.index.now;
  rule = c.self.inside.rolled.rule;
  read = c.self.inside.read.now;
  taken = c.self.inside.at;
  runs = c.self.inside.runs;
}

left : (c : After-usable_code-code) → c.self.inside.at < length c.self.inside.read.now.bases
left c = subst (λ w. w.taken < length w.read.bases) (sym c.self.view_is) c.requires

-- the code is that of its next base
next : (c : After-usable_code-code) → IsNext (place_in (old c)) c.self.inside.rolled c.usable_code-code.result
next c =
    let long = length-cleaned c.self.inside.rolled.rule c.self.inside.read.now in
    let here = left c in
    record {
      walks = c.self.invariant.place;
      left = omega (arith, long, here);
      code = c.usable_code-code.ensures
          ∙ usable_code-cleaned c.self.inside.rolled.rule c.self.inside.read.now c.self.inside.at (left c);
    }

pub usable_code-code-requires : goal.usable_code-code-requires
usable_code-code-requires c = subst (λ w. w.taken < length w.read.bases) (sym c.self.view_is) c.requires

pub push-word-requires : goal.push-word-requires
push-word-requires c = (_, next (goal.at.push-word-requires c).After-usable_code-code)

pub overflow_add-self : goal.overflow_add-self
overflow_add-self c =
    let here = left (goal.at.overflow_add-self c).After-usable_code-code in
    let fits = c.self.invariant.place.fits in
    let long = length-cleaned c.self.inside.rolled.rule c.self.inside.read.now in
    omega (arith, here, fits, long)

pub invariant_of-self : goal.invariant_of-self
invariant_of-self c =
    let early = c.if-self-k.true in
    let same = c.get-k.ensures.value ∙ c.k.ensures in
    let at = c.self.invariant.at in
    subst (λ r. IsCountWalking (record {
      tally = c.self.inside.index.now;
      rule = r;
      read = c.self.inside.read.now;
      taken = c.self.inside.at + 1;
      runs = c.self.inside.runs;
    }) c.push-word.new.self)
    (sym c.push-word.ensures.rule) (record {
      place = (c.push-word.ensures.taken _ (next (goal.at.invariant_of-self c).After-usable_code-code)).walks;
      at = omega (arith, early, same, at);
    })

pub returns-then-self-k-clause-runs : goal.returns-then-self-k-clause-runs
returns-then-self-k-clause-runs c =
    let early = c.if-self-k.true in
    let same = c.get-k.ensures.value ∙ c.k.ensures in
    ap runs_left (sym c.self.view_is)
    ∙ runs-early (old (goal.at.returns-then-self-k-clause-runs c).After-usable_code-code) (omega (arith, early, same))
    ∙ ap (λ r. runs_left (record {
      tally = c.self.inside.index.now;
      rule = r;
      read = c.self.inside.read.now;
      taken = c.self.inside.at + 1;
      runs = c.self.inside.runs;
    })) (sym c.push-word.ensures.rule)

pub push-requires : goal.push-requires
push-requires c =
    let here = left (goal.at.push-requires c).After-usable_code-code in
    let at = c.self.invariant.at in
    let fits = c.self.invariant.place.fits in
    let long = length-cleaned c.self.inside.rolled.rule c.self.inside.read.now in
    let some = c.get-k.ensures.some in
    let same = c.k.ensures in
    omega (arith, here, at, fits, long, some, same)

pub invariant_of-self-2 : goal.invariant_of-self-2
invariant_of-self-2 c =
    let late = c.if-self-k.false in
    let same = c.get-k.ensures.value ∙ c.k.ensures in
    let at = c.self.invariant.at in
    let pushed = c.push.ensures.at in
    subst (λ r. IsCountWalking (record {
      tally = c.self.inside.index.now;
      rule = r;
      read = c.self.inside.read.now;
      taken = c.self.inside.at + 1;
      runs = c.push.new.self;
    }) c.push-word.new.self)
    (sym c.push-word.ensures.rule) (record {
      place = (c.push-word.ensures.taken _ (next (goal.at.invariant_of-self-2 c).After-usable_code-code)).walks;
      at = omega (arith, late, same, at, pushed);
    })

pub returns-clause-runs : goal.returns-clause-runs
returns-clause-runs c =
    let here = (goal.at.returns-clause-runs c).After-usable_code-code in
    let late = c.if-self-k.false in
    let same = c.get-k.ensures.value ∙ c.k.ensures in
    let was = old here in
    let long = length-cleaned c.self.inside.rolled.rule c.self.inside.read.now in
    let more = left here in
    ap runs_left (sym c.self.view_is)
    ∙ runs-step was c.count_in-count.result (option_to_list c.push.result) c.push.new.self more (omega (arith, late, same))
    (c.count_in-count.ensures ∙ counted was.tally was.rule was.read (was.taken + 1 - was.rule.k) c.push-word.result
    (taken-word (place_in was) was.read c.push-word.new.self c.push-word.result refl (omega (arith, long, more)) (omega (arith, late, same)) (c.push-word.ensures.taken _ (next here))))
    c.push.ensures.runs
    ∙ ap (λ r. option_to_list c.push.result ++ runs_left (record {
      tally = c.self.inside.index.now;
      rule = r;
      read = c.self.inside.read.now;
      taken = c.self.inside.at + 1;
      runs = c.push.new.self;
    })) (sym c.push-word.ensures.rule)
