use Rattle.std.proofs.Common.{[], length, ◌∙◌, ap, arith}
use Rattle.kc_tally.specs.Histogram.{bins_of, joined_bins, counts_of}
use Rattle.kc_tally.proofs.Bins.{length-bins_of, room-for-all, bins_of-append}
use Rattle.kc_tally.proofs.histogram.Histogram.of_rows.Goals as goal

pub count_all-requires-clause-long : goal.count_all-requires-clause-long
count_all-requires-clause-long c = ap length c.in_ok-histogram.ensures ∙ length-bins_of []

pub count_all-requires-clause-fits : goal.count_all-requires-clause-fits
count_all-requires-clause-fits c = room-for-all c.in_ok-histogram.histogram [] (length c.args.rows.now) c.in_ok-histogram.ensures (omega arith)

pub returns : goal.returns
returns c =
    c.count_all.ensures.bins ∙ ap (λ bins. joined_bins bins (bins_of (counts_of c.args.rows.now))) c.in_ok-histogram.ensures
    ∙ bins_of-append [] (counts_of c.args.rows.now)
