use Rattle.std.proofs.Common.{refl}
use Rattle.std.proofs.lemmas.List.Sorted.{IsNonDecreasingBy-from_sort}
use Rattle.kc_report.proofs.AskedLemmas.{numbers_reordered}
use Rattle.kc_report.proofs.asked_words.AskedWords.of.Goals as goal

pub invariant_of-result : goal.invariant_of-result
invariant_of-result c = IsNonDecreasingBy-from_sort (λ x. x) c.sort_unstable.new.self.items c.sort_unstable.ensures.sorted

pub returns : goal.returns
returns c = record { numbers = numbers_reordered c.sort_unstable.ensures.permutation c.in_ok-words.ensures; first = refl }
