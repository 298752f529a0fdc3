use Rattle.std.proofs.Common.{◌%◌, ◌^◌, ◌∙◌, ap}
use Rattle.kc_tally.specs.Packing.{LayoutSeen}
use Rattle.kc_tally.proofs.PackingLemmas.{masked_low}
use Rattle.kc_tally.proofs.layout.Layout.count.Goals as goal

pub returns : goal.returns
returns c =
    masked_low c.args.packed c.self.inside.low c.self.invariant.0
    ∙ ap (λ (layout : LayoutSeen). c.args.packed % 2 ^ layout.low) c.self.view_is
