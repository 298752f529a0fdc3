use Rattle.std.proofs.Common.{◌∙◌, ap, sym, subst, length, arith}
use Rattle.kc_kmer.proofs.WordCounts.{length-words_in}
use Rattle.kc_word.specs.Cutting.{cleaned}
use Rattle.kc_word.specs.Walking.{IsWalking, words_left, at_front}
use Rattle.kc_word.proofs.Cleaning.{length-cleaned, words_in-cleaned}
use Rattle.kc_word.proofs.WalkLemmas.{words_left-start}
use Rattle.kc_select.proofs.base_walk.BaseWalk.new.Goals as goal

pub invariant_of-result : goal.invariant_of-result
invariant_of-result c =
    let long = length-cleaned c.args.rule c.args.read.now in
    subst (λ r. IsWalking (at_front r (cleaned r c.args.read.now)) c.new.result) (sym c.new.ensures.rule)
    (c.new.ensures.front (cleaned c.args.rule c.args.read.now) (omega (arith, long, ap length c.bases-count.ensures.value)))

pub returns-clause-words : goal.returns-clause-words
returns-clause-words c =
    ap (λ r. words_left (at_front r (cleaned r c.args.read.now))) c.new.ensures.rule
    ∙ words_left-start c.args.rule (cleaned c.args.rule c.args.read.now) c.new.ensures.some
    ∙ words_in-cleaned c.args.rule c.args.read.now

pub returns-clause-few : goal.returns-clause-few
returns-clause-few c =
    let same = ap length (returns-clause-words c) in
    let few = length-words_in c.args.rule c.args.read.now c.new.ensures.some in
    omega (arith, same, few, ap length c.bases-count.ensures.value)
