use Rattle.std.proofs.Common.{rules, ◌∙◌, sym, ap, is_some}
use Rattle.kc_table.proofs.KeyCounts.{counts_found, readied_by_look, readied_by_write, within_by_write}
use Rattle.kc_table.proofs.plain_counts.PlainCountsCounts.ready.Goals as goal

pub returns-then-contains_key-clause-stored : goal.returns-then-contains_key-clause-stored
returns-then-contains_key-clause-stored c = rw (← c.self.view_is) (readied_by_look _ _ (search rules))

pub invariant_of-self-2 : goal.invariant_of-self-2
invariant_of-self-2 c = (
  c.self.invariant.0,
  within_by_write _ c.self.inside.map.entries _ c.args.key 0 (search rules)
      ((c.in-Ok.ensures.updates).0) c.self.invariant.1,
)

pub returns-clause-stored : goal.returns-clause-stored
returns-clause-stored c =
    rw (← c.self.view_is)
    (readied_by_write c.self.inside.map.entries _ c.args.key (search rules) ((c.in-Ok.ensures.updates).0))

pub returns-in_default-clause-known : goal.returns-in_default-clause-known
returns-in_default-clause-known c = λ stored.
    sym c.if-contains_key.false ∙ c.contains_key.ensures
    ∙ sym (ap is_some (counts_found _ _ c.args.key (ap (λ p. p.counts) c.self.view_is))) ∙ stored
