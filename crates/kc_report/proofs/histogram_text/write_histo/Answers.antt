use Rattle.std.proofs.Common.{◌≡◌, ◌-◌, ap, subst, ◌∙◌, arith}
use Rattle.std.specs.Prelude.{sum}
use Rattle.std.proofs.lemmas.Result.{err_from_is_err_and}
use Rattle.kc_io.specs.Sinks.{HasWritten, HasBegun}
use Rattle.kc_report.specs.Histo.{words_by_count, words_above}
use Rattle.kc_report.proofs.CountLemmas.{words-and-above}
use Rattle.kc_report.proofs.HistoLemmas.{text-counted}
use Rattle.kc_report.proofs.histogram_text.write_histo.Goals as goal

pub write_histo_of_bins-requires-clause-few : goal.write_histo_of_bins-requires-clause-few
write_histo_of_bins-requires-clause-few g c =
    let many = c.row_count-rows.ensures.value in
    (c.args.tally.now.rows, c.histogram.ensures, omega (arith, many))

pub sum_of-requires : goal.sum_of-requires
sum_of-requires g c =
    let rows = c.args.tally.now.rows in
    let all = ap sum (c.deref.ensures.value ∙ c.in_ok-words.ensures.words) in
    omega (arith, all, words-and-above c.args.high rows c.row_count-rows.ensures.lawful.ordered.present, c.row_count-rows.ensures.value)

pub overflow_sub-above : goal.overflow_sub-above
overflow_sub-above g c =
    let rows = c.args.tally.now.rows in
    let all = c.sum_of.ensures ∙ ap sum (c.deref.ensures.value ∙ c.in_ok-words.ensures.words) in
    omega (arith, all, words-and-above c.args.high rows c.row_count-rows.ensures.lawful.ordered.present, c.row_count-rows.ensures.value)

pub returns-in_err-histo_by_blocks : goal.returns-in_err-histo_by_blocks
returns-in_err-histo_by_blocks g c =
    let seen = g.W.Sink.seen in
    let rows = c.args.tally.now.rows in
    let words : c.deref-2.result.now ≡ words_by_count c.args.high rows = c.deref-2.ensures.value ∙ c.in_ok-words.ensures.words in
    let all = c.sum_of.ensures ∙ ap sum (c.deref.ensures.value ∙ c.in_ok-words.ensures.words) in
    let above = c.row_count-rows.result - c.sum_of.result in
    let rest : above ≡ words_above rows c.args.high =
    omega (arith, all, words-and-above c.args.high rows c.row_count-rows.ensures.lawful.ordered.present, c.row_count-rows.ensures.value) in
    let text = text-counted c.args.high rows c.deref-2.result.now above words rest in
    let p = err_from_is_err_and c.from_residual-in_err-histo_by_blocks.result c.from_residual-in_err-histo_by_blocks.ensures.1 in rw (p.1, p.2)
    (subst (HasBegun (seen c.args.writer.now) (seen c.histo_by_blocks.new.writer)) text c.in_err-histo_by_blocks.ensures)

pub returns : goal.returns
returns g c =
    let seen = g.W.Sink.seen in
    let rows = c.args.tally.now.rows in
    let words : c.deref-2.result.now ≡ words_by_count c.args.high rows = c.deref-2.ensures.value ∙ c.in_ok-words.ensures.words in
    let all = c.sum_of.ensures ∙ ap sum (c.deref.ensures.value ∙ c.in_ok-words.ensures.words) in
    let above = c.row_count-rows.result - c.sum_of.result in
    let rest : above ≡ words_above rows c.args.high =
    omega (arith, all, words-and-above c.args.high rows c.row_count-rows.ensures.lawful.ordered.present, c.row_count-rows.ensures.value) in
    let text = text-counted c.args.high rows c.deref-2.result.now above words rest in
    subst (HasWritten (seen c.args.writer.now) (seen c.histo_by_blocks.new.writer)) text c.in_ok-histo_by_blocks.ensures
