use Rattle.std.proofs.Common.{◌∙◌, ap}
use Rattle.std.specs.Prelude.{sum}
use Rattle.kc_tally.specs.Histogram.{bins_of}
use Rattle.kc_tally.specs.Statistics.{greatest_of}
use Rattle.kc_gather.proofs.JoinedLemmas.{occurrences-whole}
use Rattle.kc_gather.proofs.gathered_numbers.NumbersSummary.part_of.Goals as goal

pub returns : goal.returns
returns g c = λ setup batches n whole.
    let same = occurrences-whole setup batches n c.args.stripe c.is_lawful.ensures.numbers_differ whole in
    record {
      bins_are = c.in_ok-histogram.ensures ∙ c.is_lawful.ensures.bins_are ∙ ap bins_of same;
      total_is = c.total.ensures.value ∙ c.is_lawful.ensures.total_is ∙ ap sum same;
      greatest_is = c.greatest.ensures ∙ ap greatest_of same;
    }
