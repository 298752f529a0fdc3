use Rattle.std.proofs.Common.{◌≡◌, suc, ◌+◌, ◌∷◌, get_or, drop, ap, sym, ◌∙◌, subst, arith, drop-cons}
use Rattle.kc_combine.specs.Combined.{least_of}
use Rattle.kc_combine.proofs.CountLemmas.{least_of_two}
use Rattle.kc_combine.proofs.counts_of_word.least_count.Goals as goal

pub others-preserved : goal.others-preserved
others-preserved c =
    let others = c.in-Some.others.now in
    let i = c.others.count-index in
    let next : drop i others ≡ get_or others i 0 ∷ drop (i + 1) others =
    subst (λ j. drop i others ≡ get_or others i 0 ∷ drop j others) (let one : suc i ≡ i + 1 = omega arith in one)
    (drop-cons others i 0 c.others-test.true) in
    ap (λ m. least_of (m ∷ drop (i + 1) others)) c.min-least.ensures
    ∙ least_of_two c.others.least (get_or others i 0) (drop (i + 1) others)
    ∙ ap (λ xs. least_of (c.others.least ∷ xs)) (sym next)
    ∙ c.others.invariant
