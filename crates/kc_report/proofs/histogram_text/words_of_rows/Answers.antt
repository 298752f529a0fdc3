use Rattle.std.proofs.Common.{◌≡◌, replicate, ◌∙◌}
use Rattle.kc_report.proofs.CountLemmas.{words_by_count-zeros}
use Rattle.kc_report.proofs.histogram_text.words_of_rows.Goals as goal

pub count_rows-requires : goal.count_rows-requires
count_rows-requires c =
    let zeros : c.as_mut_slice.result.now ≡ replicate c.args.high 0 = c.as_mut_slice.ensures.value ∙ c.in_ok-words.ensures.zeros in
    words_by_count-zeros c.args.high c.as_mut_slice.result.now zeros
