use Rattle.std.proofs.Common.{subst}
use Rattle.kc_table.specs.Counts.{IsGreatestCount}
use Rattle.kc_table.specs.QuotientTable.{counts_in}
use Rattle.kc_table.proofs.quotient_table.QuotientTableCounts.greatest.Goals as goal

pub returns : goal.returns
returns c = subst (λ t. IsGreatestCount (counts_in t.slots) c.greatest.result) c.self.view_is c.greatest.ensures
