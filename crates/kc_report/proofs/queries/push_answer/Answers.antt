use Rattle.std.proofs.Common.{◌++◌, ap, ◌∙◌}
use Rattle.kc_report.proofs.QueryLemmas.{answer_line}
use Rattle.kc_report.proofs.queries.push_answer.Goals as goal

pub returns-in-Some : goal.returns-in-Some
returns-in-Some c =
    c.push_columns.ensures.pushed ∙ ap (λ line. c.args.block.now ++ line)
    (answer_line c.args.tally.now c.args.asked.now c.k-k.result c.in-Some.word.0 c.counted_form-word.result.0 c.count_of-count.result c.both.result (record {
      length_is = c.k-k.ensures;
      both_is = c.both.ensures;
      below = c.counted_form-word.ensures.below;
      spelled = c.in-Some.ensures.spelled;
      formed = c.counted_form-word.ensures.formed;
      count_is = c.count_of-count.ensures;
    }))
