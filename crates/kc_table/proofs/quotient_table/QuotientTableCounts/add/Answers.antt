use Rattle.kc_table.proofs.Resizing.{full_alike}
use Rattle.kc_table.proofs.quotient_table.QuotientTableCounts.add.Goals as goal

pub returns-clause-same_limits : goal.returns-clause-same_limits
returns-clause-same_limits c =
    full_alike c.count_by_one_find.new.self c.args.self.now c.in-Some.ensures.same_bits c.in-Some.ensures.same_max_log
