use Rattle.std.proofs.Common.{◌≡◌, ◌-◌, drop}
use Rattle.kc_combine.specs.Combined.{sum_of}
use Rattle.kc_combine.proofs.counts_of_word.remaining_count.Given as goal

abbrev pub invariant-others : goal.invariant-others
invariant-others l = l.left - sum_of (drop l.other-index l.others) ≡ l.count - sum_of l.others
