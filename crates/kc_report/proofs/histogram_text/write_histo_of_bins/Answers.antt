use Rattle.std.proofs.Common.{◌∙◌, length, take, drop, ap, subst, arith}
use Rattle.std.specs.Prelude.{sum}
use Rattle.std.proofs.lemmas.Result.{err_from_is_err_and}
use Rattle.kc_io.specs.Sinks.{HasWritten, HasBegun}
use Rattle.kc_tally.proofs.Bins.{length-bins_of}
use Rattle.kc_tally.specs.Histogram.{counts_of}
use Rattle.kc_report.proofs.CountLemmas.{rest-fits}
use Rattle.kc_report.proofs.HistoLemmas.{text-bins}
use Rattle.kc_report.proofs.histogram_text.write_histo_of_bins.Goals as goal

pub split_at-requires : goal.split_at-requires
split_at-requires g c =
    let (rows, are, few) = c.requires.few in
    let long = ap length (c.sizes.ensures ∙ are) ∙ length-bins_of (counts_of rows) in
    omega (arith, long, c.requires.most)

pub sum_of-above-requires : goal.sum_of-above-requires
sum_of-above-requires g c =
    let (rows, are, few) = c.requires.few in
    let rest = ap sum (c.split_at.ensures.back ∙ ap (drop c.args.high) c.sizes.ensures) in
    let fits = rest-fits c.args.high rows c.args.bins.now c.requires.most are few in
    omega (arith, rest, fits)

pub returns-in_err-histo_by_blocks-clause-written : goal.returns-in_err-histo_by_blocks-clause-written
returns-in_err-histo_by_blocks-clause-written g c rows are =
    let p = err_from_is_err_and c.from_residual.result c.from_residual.ensures.1 in
    let seen = g.W.Sink.seen in
    let text = text-bins c.args.high rows c.args.bins.now c.split_at.result.0.now c.sum_of-above.result c.requires.most are (c.split_at.ensures.front ∙ ap (take c.args.high) c.sizes.ensures)
    (c.sum_of-above.ensures ∙ ap sum (c.split_at.ensures.back ∙ ap (drop c.args.high) c.sizes.ensures)) in
    rw p.1
    (subst (HasBegun (seen c.args.writer.now) (seen c.histo_by_blocks.new.writer)) text c.in_err-histo_by_blocks.ensures)

pub returns-clause-written : goal.returns-clause-written
returns-clause-written g c rows are =
    let seen = g.W.Sink.seen in
    let text = text-bins c.args.high rows c.args.bins.now c.split_at.result.0.now c.sum_of-above.result c.requires.most are (c.split_at.ensures.front ∙ ap (take c.args.high) c.sizes.ensures)
    (c.sum_of-above.ensures ∙ ap sum (c.split_at.ensures.back ∙ ap (drop c.args.high) c.sizes.ensures)) in
    subst (HasWritten (seen c.args.writer.now) (seen c.histo_by_blocks.new.writer)) text c.in_ok-histo_by_blocks.ensures
