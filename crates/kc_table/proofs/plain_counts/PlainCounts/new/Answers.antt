use Rattle.kc_table.proofs.KeyCounts.{IsWithin-empty}
use Rattle.kc_table.proofs.plain_counts.PlainCounts.new.Goals as goal

pub invariant_of-result : goal.invariant_of-result
invariant_of-result c = (c.requires, rw c.new.ensures.empty (IsWithin-empty c.args.bits))
