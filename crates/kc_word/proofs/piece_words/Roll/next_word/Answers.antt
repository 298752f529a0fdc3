use Rattle.std.proofs.Common.{◌-◌, length, ap, sym, ◌∙◌, arith}
use Rattle.kc_word.proofs.Readings.{reading-left}
use Rattle.kc_word.proofs.WalkLemmas.{words_left-end}
use Rattle.kc_word.proofs.piece_words.Roll.next_word.Goals as goal

pub step-requires : goal.step-requires
step-requires c =
    let left = sym (reading-left c.self-inside.invariant) ∙ ap (λ r. length r.codes.bytes - r.codes.taken) c.self-inside.view_is
    ∙ ap (λ w. length w.bytes - w.taken) c.self.view_is in
    let test = c.loop-self-test.true in
    omega (arith, left, test)

pub loop-self-smaller : goal.loop-self-smaller
loop-self-smaller c =
    let left = sym (reading-left c.self-inside.invariant) ∙ ap (λ r. length r.codes.bytes - r.codes.taken) c.self-inside.view_is
    ∙ ap (λ w. length w.bytes - w.taken) c.self.view_is in
    let test = c.loop-self-test.true in
    let taken = ap (λ w. w.taken) c.step.ensures.taken in
    let long = ap (λ w. length w.bytes) c.step.ensures.taken in
    omega (arith, left, test, taken, long)

pub returns-clause-none : goal.returns-clause-none
returns-clause-none c =
    let left = sym (reading-left c.self-inside.invariant) ∙ ap (λ r. length r.codes.bytes - r.codes.taken) c.self-inside.view_is
    ∙ ap (λ w. length w.bytes - w.taken) c.self.view_is in
    let test = c.loop-self-test.false in
    let done = words_left-end c.loop-self.self (omega (arith, left, test)) in
    (sym c.loop-self.invariant.words ∙ done, done)
