use Rattle.std.proofs.Common.{◌≡◌, ◌%◌, ◌^◌, take}
use Rattle.kc_tally.specs.Tally.{total_of}
use Rattle.kc_tally.specs.Histogram.{bins_of, counts_of, joined_bins}
use Rattle.kc_tally.proofs.histogram.Histogram.count_all.Given as goal

abbrev pub invariant-loop-row : goal.invariant-loop-row
invariant-loop-row l =
    (l.self ≡ joined_bins l.fn.self (bins_of (counts_of (take l.row-index l.rows)))) × (l.total ≡ total_of (take l.row-index l.rows) % 2 ^ 64)
