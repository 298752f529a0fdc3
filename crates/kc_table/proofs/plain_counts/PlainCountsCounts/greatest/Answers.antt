use Rattle.std.proofs.Common.{ap}
use Rattle.kc_table.proofs.KeyCounts.{apart_from_sorted}
use Rattle.kc_table.proofs.Greatest.{greatest_of_entries}
use Rattle.kc_table.proofs.plain_counts.PlainCountsCounts.greatest.Goals as goal

pub returns : goal.returns
returns c =
    greatest_of_entries _ _ _ (ap (λ p. p.counts) c.self.view_is)
    (apart_from_sorted _ c.greatest_value.ensures.ordered) c.greatest_value.ensures.greatest
