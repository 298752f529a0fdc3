use Rattle.std.proofs.Common.{[]}
use Rattle.std.specs.Vec.{vec_capacity}
use Rattle.kc_report.proofs.NumbersLemmas.{counts_none}
use Rattle.kc_report.proofs.table_numbers.TableNumbers.none.Goals as goal

pub invariant_of-result : goal.invariant_of-result
invariant_of-result c =
    let zeros = c.in_ok-zeros in
    (c.args.high, [], counts_none c.args.high zeros.field-0.items (vec_capacity zeros.field-0) zeros.ensures.zeros zeros.ensures.bounded c.requires)

pub returns : goal.returns
returns c =
    let zeros = c.in_ok-zeros in
    counts_none c.args.high zeros.field-0.items (vec_capacity zeros.field-0) zeros.ensures.zeros zeros.ensures.bounded c.requires
