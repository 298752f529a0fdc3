use Rattle.std.proofs.Common.{rules}
use Rattle.kc_table.proofs.KeyCounts.{get-entries}
use Rattle.kc_table.proofs.plain_counts.PlainCountsCounts.get.Goals as goal

pub returns : goal.returns
returns c = rw (← c.self.view_is, get-entries) (search rules)
