use Rattle.std.proofs.Common.{◌≡◌, drop}
use Rattle.kc_combine.specs.Combined.{all_have}
use Rattle.kc_combine.proofs.counts_of_word.are_positive.Given as goal

abbrev pub invariant-counts : goal.invariant-counts
invariant-counts l = all_have (drop l.count-index l.counts) ≡ all_have l.counts
