use Rattle.std.proofs.Common.{sym}
use Rattle.kc_tally.proofs.Parts.{all_rows}
use Rattle.kc_tally.proofs.SumLemmas.{IsJoined, InParts, sum-in_parts}
use Rattle.kc_tally.proofs.rows.Rows.take_sum.Goals as goal

pub returns-clause-some : goal.returns-clause-some
returns-clause-some c =
    let is : IsJoined c.in-Some.first c.in-Some-first.second c.joined_row-row.result = record {
      lesser = c.joined_row-row.ensures.lesser;
      greater = c.joined_row-row.ensures.greater;
      same = c.joined_row-row.ensures.same;
    } in
    let one : InParts c.args.self.now c.self.inside.part (all_rows c.self.inside.later.now) c.in-Some.first _ =
    record { whole = sym c.self.view_is; front = c.in-Some.ensures.some } in
    let other : InParts c.args.other.now c.other.inside.part (all_rows c.other.inside.later.now) c.in-Some-first.second _ =
    record { whole = sym c.other.view_is; front = c.in-Some-first.ensures.some } in
    sum-in_parts one other is c.skip_first_if.ensures c.skip_first_if-2.ensures
