use Rattle.std.proofs.Common.{◌∙◌, ap}
use Rattle.kc_tally.specs.Histogram.{bin_at, bin_count}
use Rattle.kc_tally.proofs.Bins.{bin_count-is}
use Rattle.kc_tally.proofs.Parts.{all_rows}
use Rattle.kc_tally.proofs.tally.Tally.bin.Goals as goal

pub returns : goal.returns
returns c =
    c.bin.ensures ∙ ap (λ bins. bin_at bins c.args.bin) c.self.invariant.1 ∙ bin_count-is (all_rows c.self.inside.parts.items) c.args.bin c.requires.some c.requires.within
    ∙ ap (λ tally. bin_count tally.rows c.args.bin) c.self.view_is
