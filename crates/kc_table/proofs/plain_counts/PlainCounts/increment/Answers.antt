use Rattle.std.proofs.Common.{rules, ◌≡◌, sym, ◌∙◌, ap, unwrap_or, ◌+◌, ◌<◌, ◌^◌}
use Rattle.kc_table.specs.Counts.{count_at}
use Rattle.kc_table.proofs.KeyCounts.{added_by_write, within_by_write, writes_by_set_value, counts_found, stored_found}
use Rattle.kc_table.proofs.plain_counts.PlainCounts.increment.Goals as goal

pub overflow_add-count : goal.overflow_add-count
overflow_add-count c =
    let count : count_at c.args.self.now.counts c.args.key ≡ c.in-Some.count.now =
    ap (λ o. unwrap_or o 0)
    (counts_found _ _ c.args.key (ap (λ p. p.counts) c.self.view_is) ∙ sym c.in-Some.ensures.value) in
    let room : count_at c.args.self.now.counts c.args.key < 2 ^ 62 = c.requires.room in
    search rules

pub unreachable-requires : goal.unreachable-requires
unreachable-requires c =
    stored_found _ _ c.args.key c.requires.stored (counts_found _ _ c.args.key (ap (λ p. p.counts) c.self.view_is))
    (sym c.in-None.ensures.value)

pub invariant_of-self : goal.invariant_of-self
invariant_of-self c = (
  c.self.invariant.0,
  within_by_write _ c.self.inside.map.entries _ c.args.key (c.in-Some.count.now + 1)
      (search rules) (writes_by_set_value _ _ _ _ _ c.in-Some.ensures.value (c.get_mut.follows.holds _).0)
      c.self.invariant.1,
)

pub returns-clause-counted : goal.returns-clause-counted
returns-clause-counted c =
    rw (← c.self.view_is)
    (added_by_write c.self.inside.map.entries _ c.args.key c.in-Some.count.now (sym c.in-Some.ensures.value)
    (writes_by_set_value _ _ _ _ _ c.in-Some.ensures.value (c.get_mut.follows.holds _).0))

pub returns-clause-told : goal.returns-clause-told
returns-clause-told c =
    ap (λ n. n + 1) (sym (ap (λ o. unwrap_or o 0)
    (counts_found _ _ c.args.key (ap (λ p. p.counts) c.self.view_is) ∙ sym c.in-Some.ensures.value)))
