use Rattle.std.proofs.Common.{◌-◌, ◌++◌, ap, sym, ◌∙◌, length, arith}
use Rattle.std.proofs.lemmas.List.{append-nil}
use Rattle.kc_word.proofs.Readings.{reading-left}
use Rattle.kc_word.proofs.WalkLemmas.{words_left-end}
use Rattle.kc_word.proofs.piece_words.push_words.Goals as goal

pub step-requires : goal.step-requires
step-requires c =
    let left = sym (reading-left c.roll-inside.invariant) ∙ ap (λ r. length r.codes.bytes - r.codes.taken) c.roll-inside.view_is
    ∙ ap (λ w. length w.bytes - w.taken) c.roll.view_is in
    let test = c.loop-roll-test.true in
    omega (arith, left, test)

pub returns : goal.returns
returns c =
    let left = sym (reading-left c.roll-inside.invariant) ∙ ap (λ r. length r.codes.bytes - r.codes.taken) c.roll-inside.view_is
    ∙ ap (λ w. length w.bytes - w.taken) c.roll.view_is in
    let test = c.loop-roll-test.false in
    sym (append-nil c.loop-roll.words.items)
    ∙ ap (λ xs. c.loop-roll.words.items ++ xs) (sym (words_left-end c.loop-roll.roll (omega (arith, left, test))))
    ∙ c.loop-roll.invariant.words
