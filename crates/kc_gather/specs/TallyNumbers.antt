-- The numbers of a tally.
-- Source: this project's own.
use Rattle.std.specs.Prelude.{◌≡◌, ◌^◌, ◌<◌, List, length}
use Rattle.kc_fastx.specs.Reads.{Read}
use Rattle.kc_kmer.specs.Rule.{CountingRule}
use Rattle.kc_tally.specs.Tally.{TallySeen, IsTallyOf}
use Rattle.kc_tally.specs.Histogram.{bins_of, counts_of}
use Rattle.kc_tally.specs.Statistics.{statistics_of}
use Rattle.kc_gather.specs.declared.gathered_numbers.Numbers.{Numbers}

-- the numbers are those of the tally of the reads, which has fewer than 2 ^ 64 rows
pub record AreNumbersOfTally (rule : CountingRule) (reads : List Read) (numbers : Numbers) : Type 0 where
  pub tally : TallySeen
  pub is_tally : IsTallyOf rule reads tally
  pub bins_are : numbers.histogram ≡ bins_of (counts_of tally.rows)
  pub few : length tally.rows < 2 ^ 64
  pub statistics_are : numbers.statistics ≡ statistics_of tally.rows
