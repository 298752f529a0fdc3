use Rattle.std.proofs.Common.{◌≡◌, ◌∷◌, drop}
use Rattle.kc_combine.specs.Combined.{least_of}
use Rattle.kc_combine.proofs.counts_of_word.least_count.Given as goal

abbrev pub invariant-others : goal.invariant-others
invariant-others l = least_of (l.least ∷ drop l.count-index l.others) ≡ least_of l.fn.counts
