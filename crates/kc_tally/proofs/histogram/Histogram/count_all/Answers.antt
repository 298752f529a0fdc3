use Rattle.std.proofs.Common.{refl, ◌∙◌, ap, arith, get_or}
use Rattle.std.proofs.lemmas.List.Sums.{sum_by_more}
use Rattle.kc_tally.specs.declared.row.Row.{Row}
use Rattle.kc_tally.specs.Tally.{row_of}
use Rattle.kc_tally.specs.Histogram.{bin_of, counted_in}
use Rattle.kc_tally.proofs.Bins.{IsCounting, room-for-row, joined-row, joined-none}
use Rattle.kc_tally.proofs.histogram.Histogram.count_all.Goals as goal

pub loop-row-init : goal.loop-row-init
loop-row-init c = (joined-none c.args.self.now c.requires.long, refl)

pub count_in-requires : goal.count_in-requires
count_in-requires c =
    let counting : IsCounting c.args.self.now c.loop-row.self c.args.rows.now c.loop-row.row-index =
    record { long = c.requires.long; fits = c.requires.fits; left = omega arith; is = c.loop-row.invariant.0 } in
    room-for-row (bin_of (get_or c.args.rows.now c.loop-row.row-index (row_of 0 0)).count) counting (omega arith)

pub loop-row-preserved : goal.loop-row-preserved
loop-row-preserved c =
    let rows = c.args.rows.now in
    let i = c.loop-row.row-index in
    let more = sum_by_more (λ (row : Row). row.count) rows i (row_of 0 0) (omega arith) in (
      c.count_in.ensures ∙ ap (λ bins. counted_in bins (get_or rows i (row_of 0 0)).count) c.loop-row.invariant.0
          ∙ joined-row c.args.self.now rows i (row_of 0 0) c.requires.long (omega arith),
      omega (arith, more, c.loop-row.invariant.1),
    )
