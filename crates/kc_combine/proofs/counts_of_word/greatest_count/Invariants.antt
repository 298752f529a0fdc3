use Rattle.std.proofs.Common.{◌≡◌, ◌∷◌, drop}
use Rattle.kc_combine.specs.Combined.{greatest_of}
use Rattle.kc_combine.proofs.counts_of_word.greatest_count.Given as goal

abbrev pub invariant-counts : goal.invariant-counts
invariant-counts l = greatest_of (l.greatest ∷ drop l.count-index l.counts) ≡ greatest_of l.counts
