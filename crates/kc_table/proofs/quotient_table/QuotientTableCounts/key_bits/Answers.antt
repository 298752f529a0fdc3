use Rattle.std.proofs.Common.{subst}
use Rattle.kc_table.specs.Counts.{IsWithin}
use Rattle.kc_table.specs.QuotientTable.{counts_in}
use Rattle.kc_table.proofs.SlotSteps.{IsWithin-slots}
use Rattle.kc_table.proofs.quotient_table.QuotientTableCounts.key_bits.Goals as goal

pub returns-clause-within : goal.returns-clause-within
returns-clause-within c =
    subst (λ t. IsWithin c.self.inside.slots.bits (counts_in t.slots)) c.self.view_is
    (IsWithin-slots c.self.inside.slots.slots.items c.self.inside.slots.sound)
