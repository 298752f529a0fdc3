use Rattle.std.proofs.Common.{refl}
use Rattle.kc_tally.proofs.Bins.{bins_of-nil}
use Rattle.kc_tally.proofs.histogram.Histogram.new.Goals as goal

pub returns : goal.returns
returns c = bins_of-nil c.in_ok-bins.bins.items 10_001 refl c.in_ok-bins.ensures.zeros
