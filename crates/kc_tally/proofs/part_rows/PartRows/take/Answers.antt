use Rattle.std.proofs.Common.{◌∙◌, drop, cond, ap, sym}
use Rattle.kc_tally.proofs.PackingLemmas.{taken-on}
use Rattle.kc_tally.proofs.part_rows.PartRows.take.Goals as goal

pub returns-clause-some : goal.returns-clause-some
returns-clause-some c =
    sym c.self.view_is
    ∙ taken-on c.self.inside.layout c.self.inside.packed.now c.self.inside.large.now c.in-Some.first.now c.in-Some.rest.now c.row-row.result _
    c.in-Some.ensures.cases.0 c.row-row.ensures
    (c.without_first-self-inside.ensures ∙ ap (λ b. cond b (drop 1 c.self.inside.large.now) c.self.inside.large.now) c.is_apart.ensures)
