-- What the summary of a count determines of its tally: source, our formats page ("Reports").
use Rattle.std.specs.Prelude.{◌≡◌, ◌≤◌, ◌<◌, ◌^◌, ◌⊎◌, length}
use Rattle.kc_tally.specs.Tally.{TallySeen}
use Rattle.kc_tally.specs.Histogram.{bins_of, counts_of}
use Rattle.kc_tally.specs.Statistics.{statistics_of}
use Rattle.kc_gather.specs.declared.gathered_numbers.Numbers.{Numbers}
use Rattle.kc_tool.specs.declared.reports.Report.{Report}
use Rattle.kc_command.specs.declared.settings.Print.TheVariants as print

-- the summary belongs to a tally for which P holds
pub record KnowsOne {S : Type 0} (Knows : S → TallySeen → Type 0) (summary : S) (P : TallySeen → Type 0)
    : Type 0 where
  pub tally : TallySeen
  pub knows : Knows summary tally
  pub holds : P tally

-- the bins and the statistics are those of the tally, which has fewer than 2 ^ 64 rows
pub record KnowNumbers (numbers : Numbers) (tally : TallySeen) : Type 0 where
  pub bins_are : numbers.histogram ≡ bins_of (counts_of tally.rows)
  pub few : length tally.rows < 2 ^ 64
  pub statistics_are : numbers.statistics ≡ statistics_of tally.rows

-- these numbers are enough for the statistics, and for a histogram without lines of their own for counts above 10,000
abbrev pub WantsNumbers : Report → Type 0
WantsNumbers report =
    ((report.print ≡ print.Histo) × (report.high ≤ 10000)) ⊎ (report.print ≡ print.Stats)
