use Rattle.kc_booking.proofs.AtLeastLemmas.{number_at-falls}
use Rattle.kc_booking.proofs.counted.CountedTable.histogram.Goals as goal

pub histogram-requires : goal.histogram-requires
histogram-requires g c = rw c.self.invariant.numbers_are (λ n some. number_at-falls _ n some)
