use Rattle.std.proofs.Common.{ap, ◌∙◌, sym, is_some}
use Rattle.kc_table.proofs.KeyCounts.{counts_found}
use Rattle.kc_table.proofs.plain_counts.PlainCounts.is_stored.Goals as goal

pub returns : goal.returns
returns c = c.contains_key.ensures ∙ sym (ap is_some (counts_found _ _ c.args.key (ap (λ p. p.counts) c.self.view_is)))
