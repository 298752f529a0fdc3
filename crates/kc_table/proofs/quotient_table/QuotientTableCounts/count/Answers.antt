use Rattle.std.proofs.Common.{◌≤◌, sym, subst}
use Rattle.kc_table.specs.QuotientTable.{counts_in, IsShutOut, MayBeTooSmall, MayBeFull}
use Rattle.kc_table.proofs.Resizing.{full_alike}
use Rattle.kc_table.proofs.quotient_table.QuotientTableCounts.count.Goals as goal

pub count_in_larger-requires-clause-shut_out : goal.count_in_larger-requires-clause-shut_out
count_in_larger-requires-clause-shut_out c =
    subst (λ t. IsShutOut t c.args.key) (sym c.in-None.ensures.unchanged) c.in-None.ensures.shut_out

pub returns-in-Some-clause-same_limits : goal.returns-in-Some-clause-same_limits
returns-in-Some-clause-same_limits c =
    full_alike c.count_by_one_find.new.self c.args.self.now c.in-Some.ensures.same_bits c.in-Some.ensures.same_max_log

pub returns-in-None-clause-full_only_there : goal.returns-in-None-clause-full_only_there
returns-in-None-clause-full_only_there c = λ full.
    subst (λ t. MayBeFull t (counts_in t.slots) c.args.key) c.in-None.ensures.unchanged
    (c.count_in_larger.ensures.full full)

pub returns-in-None-clause-smallest : goal.returns-in-None-clause-smallest
returns-in-None-clause-smallest c = λ log from below.
    subst (λ t. MayBeTooSmall t.bits log (counts_in t.slots) c.args.key) c.in-None.ensures.unchanged
    (c.count_in_larger.ensures.smallest log (subst (λ t. t.log ≤ log) (sym c.in-None.ensures.unchanged) from) below)
