use Rattle.std.proofs.Common.{◌≡◌, length, arith, ◌∙◌}
use Rattle.kc_tally.specs.Histogram.{counts_of}
use Rattle.kc_tally.specs.Statistics.{greatest_of}
use Rattle.kc_tally.specs.Tally.{total_of}
use Rattle.kc_report.specs.Histo.{words_with_count}
use Rattle.kc_report.proofs.CountLemmas.{bin_count-below}
use Rattle.kc_report.proofs.statistics.statistics_of.Goals as goal

pub returns : goal.returns
returns c =
    let rows = c.args.tally.now.rows in
    let unique : c.bin.result ≡ words_with_count rows 1 = c.bin.ensures ∙ bin_count-below rows 1 (omega arith) in
    let distinct : c.row_count.result ≡ length rows = c.row_count.ensures.value in
    let total : c.total.result ≡ total_of rows = c.total.ensures.value in
    let greatest : c.greatest_count.result ≡ greatest_of (counts_of rows) = c.greatest_count.ensures in
    (λ i. record { unique = unique i; distinct = distinct i; total = total i; greatest = greatest i })
