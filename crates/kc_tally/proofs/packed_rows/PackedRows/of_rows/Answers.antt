use Rattle.kc_tally.proofs.PackingLemmas.{are-packed, all-packed}
use Rattle.kc_tally.proofs.packed_rows.PackedRows.of_rows.Goals as goal

pub invariant_of-result : goal.invariant_of-result
invariant_of-result c =
    are-packed c.layout_for-layout.result c.args.rows.now c.in_ok-packed.packed.items c.in_ok-large.large.items c.layout_for-layout.ensures.least
    c.requires.present c.in_ok-packed.ensures.all c.in_ok-large.ensures.all

pub returns : goal.returns
returns c =
    all-packed c.layout_for-layout.result c.args.rows.now c.in_ok-packed.packed.items c.in_ok-large.large.items c.layout_for-layout.ensures.least
    c.requires.present c.in_ok-packed.ensures.all c.in_ok-large.ensures.all
