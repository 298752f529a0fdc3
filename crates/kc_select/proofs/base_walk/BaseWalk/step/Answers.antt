use Rattle.std.proofs.Common.{◌+◌, ◌<◌, length, sym, ◌∙◌, subst, arith}
use Rattle.kc_word.specs.Cutting.{cleaned}
use Rattle.kc_word.specs.Walking.{Walking, IsWalking, IsNext}
use Rattle.kc_word.proofs.Cleaning.{length-cleaned}
use Rattle.kc_word.proofs.UsableLemmas.{usable_code-cleaned}
use Rattle.kc_word.proofs.WalkLemmas.{taken-some, taken-none}
use Rattle.kc_select.proofs.base_walk.BaseWalk.step.Goals as goal
use Rattle.kc_select.proofs.base_walk.BaseWalk.step.Goals.{After-usable_code-code}

pub usable_code-code-requires : goal.usable_code-code-requires
usable_code-code-requires c =
    let long = length-cleaned c.self.inside.rolled.rule c.self.inside.read.now in
    let here = subst (λ w. w.taken < length w.bytes) (sym c.self.view_is) c.requires in
    omega (arith, long, here)

-- the place before
abbrev place : After-usable_code-code → Walking
place c = record { rule = c.self.inside.rolled.rule; bytes = cleaned c.self.inside.rolled.rule c.self.inside.read.now; taken = c.self.inside.at }

-- the code is that of its next byte
next : (c : After-usable_code-code) → IsNext (place c) c.self.inside.rolled c.usable_code-code.result
next c =
    let long = length-cleaned c.self.inside.rolled.rule c.self.inside.read.now in
    let here = subst (λ w. w.taken < length w.bytes) (sym c.self.view_is) c.requires in
    record {
      walks = c.self.invariant;
      left = here;
      code = c.usable_code-code.ensures
          ∙ usable_code-cleaned c.self.inside.rolled.rule c.self.inside.read.now c.self.inside.at (omega (arith, long, here));
    }

pub push-requires : goal.push-requires
push-requires c = (_, next (goal.at.push-requires c).After-usable_code-code)

pub invariant_of-self : goal.invariant_of-self
invariant_of-self c =
    subst (λ r. IsWalking (record { rule = r; bytes = cleaned r c.self.inside.read.now; taken = c.self.inside.at + 1 }) c.push.new.self)
    (sym c.push.ensures.rule) (c.push.ensures.taken _ (next (goal.at.invariant_of-self c).After-usable_code-code)).walks

pub returns-clause-word : goal.returns-clause-word
returns-clause-word c =
    let taken = c.push.ensures.taken _ (next (goal.at.returns-clause-word c).After-usable_code-code) in
    rw (sym c.self.view_is, c.push.ensures.rule) (taken-some c.push.result _ _ taken.words)

pub returns-clause-none : goal.returns-clause-none
returns-clause-none c =
    let taken = c.push.ensures.taken _ (next (goal.at.returns-clause-none c).After-usable_code-code) in
    rw (sym c.self.view_is, c.push.ensures.rule) (taken-none c.push.result _ _ taken.words)
