use Rattle.std.proofs.Common.{rules, List, ◌∙◌, ap, arith}
use Rattle.kc_tally.specs.declared.row.Row.{Row}
use Rattle.kc_tally.proofs.Parts.{all_rows, parts-on}
use Rattle.kc_count_tests.proofs.tally_rows.divide_rows.Goals as goal

pub loop-end-preserved : goal.loop-end-preserved
loop-end-preserved c =
    let rows = c.args.rows.now in
    let part = c.in_ok-of_rows.field-0 in
    record {
      within = omega (arith, c.min-end.ensures);
      so_far = ap all_rows c.in_ok-push.ensures.items
          ∙ parts-on (λ (part : List Row). part) c.loop-end.parts.items part rows c.loop-end.at c.min-end.result (search rules)
          c.loop-end.invariant.so_far c.in_ok-of_rows.ensures;
    }
