use Rattle.std.proofs.Common.{◌∙◌, ap}
use Rattle.kc_tally.specs.Histogram.{bin_at}
use Rattle.kc_booking.proofs.AtLeastLemmas.{bin_at-bins_from, number_at-falls}
use Rattle.kc_booking.proofs.counted.CountedTable.bin.Goals as goal

pub bin-requires-clause-falling : goal.bin-requires-clause-falling
bin-requires-clause-falling g c = rw c.self.invariant.numbers_are (number_at-falls _ c.args.bin c.requires.some)

pub returns : goal.returns
returns g c =
    c.bin.ensures ∙ bin_at-bins_from c.self.inside.at_least c.args.bin c.requires.some c.requires.within
    ∙ ap (λ s. bin_at s.bins c.args.bin) c.self.view_is
