use Rattle.std.proofs.Common.{ap, ◌∙◌, sym, subst}
use Rattle.std.specs.FinMap.{len}
use Rattle.kc_table.specs.Counts.{IsStored}
use Rattle.kc_table.proofs.KeyCounts.{len-insert_stored}
use Rattle.kc_table.proofs.limited_counts.LimitedCountsCounts.add.Goals as goal

pub invariant_of-self : goal.invariant_of-self
invariant_of-self c = (
  c.self.invariant.0 ∙ sym
      (ap len c.add.ensures.counted
      ∙ len-insert_stored c.self.inside.plain.counts c.args.key _
      (subst (λ t. IsStored t.counts c.args.key) (sym c.self.view_is) c.requires.stored)),
  c.self.invariant.1,
)
