use Rattle.std.proofs.Common.{sym, subst}
use Rattle.kc_combine.specs.Compared.{ComparingSeen, HasCompared}
use Rattle.kc_combine.proofs.ComparedLemmas.{word_compared}
use Rattle.kc_combine.proofs.comparison.ComparingVisitsWords.visit.Goals as goal

pub returns-clause-more : goal.returns-clause-more
returns-clause-more c = λ words has.
    let is = subst (λ (seen : ComparingSeen). HasCompared seen words) (sym c.self.view_is) has in
    word_compared c.self.inside.solid words c.args.counts.now c.self.inside.numbers c.comparison_of_word-word.result
    c.sum_of_both-self-inside.result is c.comparison_of_word-word.ensures c.sum_of_both-self-inside.ensures
