use Rattle.std.proofs.Common.{ap, subst, ℕ, Vec, Global}
use Rattle.kc_table.specs.Counts.{IsWithin}
use Rattle.kc_table.proofs.KeyCounts.{rows_of_entries, rows_within, apart_from_sorted, IfOk-weaker}
use Rattle.kc_table.proofs.plain_counts.PlainCountsCounts.rows.Goals as goal

pub returns-clause-told : goal.returns-clause-told
returns-clause-told c =
    IfOk-weaker _ _ _ (λ (v : Vec (ℕ × ℕ) Global) is. rows_of_entries _ _ (ap (λ p. p.counts) c.self.view_is)
    (apart_from_sorted _ c.counted_entries.ensures.ordered) v.items is) c.counted_entries.ensures.entries

pub returns-clause-in_range : goal.returns-clause-in_range
returns-clause-in_range c =
    IfOk-weaker _ _ _ (λ (v : Vec (ℕ × ℕ) Global) is. rows_within _ _ v.items
    (rows_of_entries _ _ (ap (λ p. p.counts) c.self.view_is) (apart_from_sorted _ c.counted_entries.ensures.ordered) v.items
    is) (subst (λ p. IsWithin p.bits p.counts) c.self.view_is c.self.invariant.1)) c.counted_entries.ensures.entries
