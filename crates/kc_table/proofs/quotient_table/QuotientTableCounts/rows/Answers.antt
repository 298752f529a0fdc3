use Rattle.std.proofs.Common.{ap, subst, ℕ, Vec, Global}
use Rattle.kc_table.specs.Counts.{IsWithin}
use Rattle.kc_table.specs.QuotientTable.{counts_in}
use Rattle.kc_table.proofs.KeyCounts.{rows_of_entries, rows_within, IfOk-weaker}
use Rattle.kc_table.proofs.Contents.{keys_apart}
use Rattle.kc_table.proofs.SlotSteps.{slots_apart, IsWithin-slots}
use Rattle.kc_table.proofs.quotient_table.QuotientTableCounts.rows.Goals as goal

pub returns-clause-told : goal.returns-clause-told
returns-clause-told c =
    IfOk-weaker _ _ _ (λ (v : Vec (ℕ × ℕ) Global) is.
    rows_of_entries _ _ (ap (λ t. counts_in t.slots) c.self.view_is)
    (keys_apart _ (slots_apart c.self.inside.slots.slots.items c.self.inside.slots.sound)) v.items is)
    c.entries.ensures.entries

pub returns-clause-in_range : goal.returns-clause-in_range
returns-clause-in_range c =
    IfOk-weaker _ _ _ (λ (v : Vec (ℕ × ℕ) Global) is.
    rows_within _ _ v.items
    (rows_of_entries _ _ (ap (λ t. counts_in t.slots) c.self.view_is)
    (keys_apart _ (slots_apart c.self.inside.slots.slots.items c.self.inside.slots.sound)) v.items is)
    (subst (λ t. IsWithin t.bits (counts_in t.slots)) c.self.view_is
    (IsWithin-slots c.self.inside.slots.slots.items c.self.inside.slots.sound))) c.entries.ensures.entries
