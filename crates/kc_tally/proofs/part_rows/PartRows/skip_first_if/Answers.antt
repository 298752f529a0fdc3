use Rattle.std.proofs.Common.{◌∙◌, drop, cond, List, ap}
use Rattle.kc_tally.specs.declared.row.Row.{Row}
use Rattle.kc_tally.proofs.PackingLemmas.{passed-by}
use Rattle.kc_tally.proofs.part_rows.PartRows.skip_first_if.Goals as goal

pub returns : goal.returns
returns c =
    passed-by c.self.inside.layout c.self.inside.packed.now c.self.inside.large.now c.in-Some.first.now _ c.args.passed _ _ _
    c.in-Some.ensures.cases.0 c.is_apart-apart.ensures c.without_first-self-inside.ensures c.without_first-self-inside-2.ensures
    ∙ ap (λ (rows : List Row). cond c.args.passed (drop 1 rows) rows) c.self.view_is
