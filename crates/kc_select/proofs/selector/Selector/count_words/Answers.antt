use Rattle.std.proofs.Common.{◌<◌, ◌^◌, length, ap, arith, subst}
use Rattle.kc_select.proofs.SolidWordsLemmas.{next_below}
use Rattle.kc_select.proofs.selector.Selector.count_words.Goals as goal

pub is_solid_word-requires : goal.is_solid_word-requires
is_solid_word-requires c =
    subst (λ k. c.in-Some.word < 4 ^ k) c.words.invariant.k (next_below c.words.walk c.in-Some.word _ c.in-Some.ensures.word)

pub overflow_add-counted : goal.overflow_add-counted
overflow_add-counted c =
    let few = c.words.invariant.few in
    let some = ap length c.in-Some.ensures.word in
    omega (arith, few, some)

pub overflow_add-counted-then-is_solid_word : goal.overflow_add-counted-then-is_solid_word
overflow_add-counted-then-is_solid_word c =
    let few = c.words.invariant.few in
    let some = ap length c.in-Some.ensures.word in
    let fewer = c.words.invariant.fewer in
    omega (arith, few, some, fewer)
