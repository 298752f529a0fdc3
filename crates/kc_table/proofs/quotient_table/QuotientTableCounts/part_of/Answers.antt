use Rattle.std.proofs.Common.{◌∙◌, ap, arith, rules}
use Rattle.kc_table.specs.Reprobing.{home_part}
use Rattle.kc_table.proofs.SlotSteps.{slots_shifted}
use Rattle.kc_table.proofs.Parts.{home_part-told, home_part-below}
use Rattle.kc_table.proofs.quotient_table.QuotientTableCounts.part_of.Goals as goal

pub overflow_cast-result-2 : goal.overflow_cast-result-2
overflow_cast-result-2 c =
    let below = home_part-below c.self.inside.slots.log c.args.key _ c.saturating_sub.result (slots_shifted c.self.inside.slots) (search rules) in
    omega (arith, below)

pub returns-clause-few : goal.returns-clause-few
returns-clause-few c =
    home_part-below c.self.inside.slots.log c.args.key _ c.saturating_sub.result (slots_shifted c.self.inside.slots) (search rules)

pub returns-clause-part : goal.returns-clause-part
returns-clause-part c =
    home_part-told c.self.inside.slots.log c.args.key _ c.saturating_sub.result (slots_shifted c.self.inside.slots) (search rules)
    ∙ ap (λ t. home_part t.log c.args.key) c.self.view_is
