use Rattle.std.proofs.Common.{ap, subst, arith}
use Rattle.kc_kmer.specs.Rule.{CountingRule}
use Rattle.kc_tally.specs.Tally.{AreRows}
use Rattle.kc_count_tests.proofs.tally_rows.tally_of.Goals as goal

pub of_rows-requires : goal.of_rows-requires
of_rows-requires c =
    subst (λ (rule : CountingRule). AreRows rule.k rule.both c.in_ok-rows.rows.items) c.new.ensures
    (c.rows_of_tally.ensures c.new.result c.args.reads.now c.in_ok-rows.rows.items (let same = c.new.ensures in let k = ap (λ (rule : CountingRule). rule.k) same in omega (arith, k)) (omega arith) c.in_ok-rows.ensures)
