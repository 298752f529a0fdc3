-- The statistics of a tally, a function of its rows: source, what `jellyfish stats` prints, Marçais and Kingsford 2011.
use Rattle.std.specs.Prelude.{ℕ, ◌==◌, List, length, max, fold, count_by}
use Rattle.kc_tally.specs.declared.row.Row.{Row}
use Rattle.kc_tally.specs.declared.tally_statistics.Statistics.{Statistics}
use Rattle.kc_tally.specs.Tally.{total_of}
use Rattle.kc_tally.specs.Histogram.{counts_of}

-- the greatest of the counts, 0 if there is none
abbrev pub greatest_of : List ℕ → ℕ
greatest_of counts = fold max 0 counts

-- how many words occur once, how many occur, the sum of their occurrences, and the occurrences of the most frequent
-- word
abbrev pub statistics_of : List Row → Statistics
statistics_of rows = record {
  unique = count_by (λ row. row.count == 1) rows;
  distinct = length rows;
  total = total_of rows;
  greatest = greatest_of (counts_of rows);
}
