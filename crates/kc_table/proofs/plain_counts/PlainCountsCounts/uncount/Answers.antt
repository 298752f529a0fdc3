use Rattle.std.proofs.Common.{rules, ◌≡◌, ◌≤◌, sym, ◌∙◌, ap, subst, unwrap_or, ◌-◌}
use Rattle.kc_table.specs.Counts.{count_at}
use Rattle.kc_table.proofs.KeyCounts.{reduced_by_write, within_by_write, writes_by_set_value, counts_found, stored_found}
use Rattle.kc_table.proofs.KeyCounts.{stored_by_count}
use Rattle.kc_table.proofs.plain_counts.PlainCountsCounts.uncount.Goals as goal

pub overflow_sub-count : goal.overflow_sub-count
overflow_sub-count c =
    let count : count_at c.args.self.now.counts c.args.key ≡ c.in-Some.count.now =
    ap (λ o. unwrap_or o 0)
    (counts_found _ _ c.args.key (ap (λ p. p.counts) c.self.view_is) ∙ sym c.in-Some.ensures.value) in
    subst (λ n. 1 ≤ n) count c.requires.some

pub unreachable-requires : goal.unreachable-requires
unreachable-requires c =
    stored_found _ _ c.args.key (stored_by_count _ c.args.key c.requires.some)
    (counts_found _ _ c.args.key (ap (λ p. p.counts) c.self.view_is)) (sym c.in-None.ensures.value)

pub invariant_of-self : goal.invariant_of-self
invariant_of-self c = (
  c.self.invariant.0,
  within_by_write _ c.self.inside.map.entries _ c.args.key (c.in-Some.count.now - 1)
      (search rules) (writes_by_set_value _ _ _ _ _ c.in-Some.ensures.value (c.get_mut.follows.holds _).0)
      c.self.invariant.1,
)

pub returns-clause-counted : goal.returns-clause-counted
returns-clause-counted c =
    rw (← c.self.view_is)
    (reduced_by_write c.self.inside.map.entries _ c.args.key c.in-Some.count.now (sym c.in-Some.ensures.value)
    (writes_by_set_value _ _ _ _ _ c.in-Some.ensures.value (c.get_mut.follows.holds _).0))
