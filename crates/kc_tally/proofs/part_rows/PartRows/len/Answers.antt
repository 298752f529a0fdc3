use Rattle.std.proofs.Common.{◌∙◌, ap, length, sym}
use Rattle.kc_tally.proofs.Fronts.{length-rows_of}
use Rattle.kc_tally.proofs.part_rows.PartRows.len.Goals as goal

pub returns : goal.returns
returns c =
    sym (length-rows_of c.self.inside.layout c.self.inside.packed.now c.self.inside.large.now) ∙ ap length c.self.view_is
