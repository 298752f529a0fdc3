use Rattle.std.proofs.Common.{◌≡◌, drop}
use Rattle.kc_combine.specs.Combined.{none_has}
use Rattle.kc_combine.proofs.counts_of_word.are_zero.Given as goal

abbrev pub invariant-counts : goal.invariant-counts
invariant-counts l = none_has (drop l.count-index l.counts) ≡ none_has l.counts
