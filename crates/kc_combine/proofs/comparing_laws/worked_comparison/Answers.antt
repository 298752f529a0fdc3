use Rattle.std.proofs.Common.{refl}
use Rattle.kc_combine.specs.Compared.{counts_below}
use Rattle.kc_combine.proofs.comparing_laws.worked_comparison.Goals as goal

pub returns-clause-counts : goal.returns-clause-counts
unfolding counts_below
returns-clause-counts c = refl
