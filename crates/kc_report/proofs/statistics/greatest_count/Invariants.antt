use Rattle.std.proofs.Common.{◌≡◌}
use Rattle.std.specs.Prelude.{fold, max}
use Rattle.kc_tally.specs.Histogram.{counts_of}
use Rattle.kc_tally.specs.Statistics.{greatest_of}
use Rattle.kc_report.proofs.statistics.greatest_count.Given as goal

-- the greatest count of the rows that are left and the one so far is that of all rows
abbrev pub invariant-loop-row : goal.invariant-loop-row
invariant-loop-row l = record {
  can_next : goal.iterator-loop-row.can_next l.row-iterator;
  is_finite : goal.iterator-loop-row.is_finite l.row-iterator;
  greatest : fold max l.greatest (counts_of l.row-iterator) ≡ greatest_of (counts_of l.tally.rows);
}
