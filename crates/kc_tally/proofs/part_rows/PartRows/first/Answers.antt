use Rattle.std.proofs.Common.{◌≡◌, ◌∙◌, ◌∷◌, drop, sym, subst}
use Rattle.kc_tally.proofs.PackingLemmas.{begun, ended}
use Rattle.kc_tally.proofs.part_rows.PartRows.first.Goals as goal

pub returns-in_default-clause-none : goal.returns-in_default-clause-none
returns-in_default-clause-none c = sym c.self.view_is ∙ ended c.self.inside.layout c.self.inside.packed.now c.self.inside.large.now c.in_default.ensures.cases

pub returns-clause-some : goal.returns-clause-some
returns-clause-some c =
    subst (λ rows. rows ≡ c.row.result ∷ drop 1 rows) c.self.view_is
    (begun c.self.inside.layout c.self.inside.packed.now c.self.inside.large.now c.in-Some.first.now c.row.result _ c.in-Some.ensures.cases.0 c.row.ensures)
