use Rattle.std.proofs.Common.{ap, ◌∙◌, sym, subst, ◌≤◌}
use Rattle.std.specs.FinMap.{len}
use Rattle.kc_table.specs.Counts.{count_at}
use Rattle.kc_table.proofs.KeyCounts.{len-insert_stored, stored_by_count}
use Rattle.kc_table.proofs.limited_counts.LimitedCountsCounts.uncount.Goals as goal

pub invariant_of-self : goal.invariant_of-self
invariant_of-self c = (
  c.self.invariant.0 ∙ sym
      (ap len c.uncount.ensures.counted
      ∙ len-insert_stored c.self.inside.plain.counts c.args.key _
      (stored_by_count _ c.args.key
      (subst (λ t. 1 ≤ count_at t.counts c.args.key) (sym c.self.view_is) c.requires.some))),
  c.self.invariant.1,
)
