use Rattle.std.proofs.Common.{ap, ◌∙◌, sym, nat_cmp, ℕ, arith}
use Rattle.std.specs.FinMap.{len, len-empty}
use Rattle.kc_table.proofs.limited_counts.LimitedCounts.new.Goals as goal

pub invariant_of-result : goal.invariant_of-result
invariant_of-result c = (sym (ap (λ p. len p.counts) c.new.ensures ∙ len-empty nat_cmp ℕ), omega arith)
