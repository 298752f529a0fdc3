use Rattle.kc_tally.proofs.PackingLemmas.{word_fits}
use Rattle.kc_tally.proofs.layout.Layout.word.Goals as goal

pub overflow_add-result : goal.overflow_add-result
overflow_add-result c =
    record { fits = word_fits c.self.inside.least c.self.inside.low c.args.packed c.self.invariant.0 c.self.invariant.1 c.ranges.packed.fits }
