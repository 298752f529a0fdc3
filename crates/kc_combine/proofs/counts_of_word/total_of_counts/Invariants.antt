use Rattle.std.proofs.Common.{◌≡◌, ◌+◌, ◌≤◌, ◌^◌, drop}
use Rattle.kc_combine.specs.Combined.{sum_of}
use Rattle.kc_combine.proofs.counts_of_word.total_of_counts.Given as goal

abbrev pub invariant-counts : goal.invariant-counts
invariant-counts l = record {
  whole : l.sum + sum_of (drop l.count-index l.counts) ≡ sum_of l.counts;
  most : l.sum ≤ 2 ^ 62;
}
