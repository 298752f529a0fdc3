use Rattle.std.proofs.lemmas.Result.{err_from_is_err_and}
use Rattle.kc_gzip.proofs.TakingLemmas.{skipping-stops}
use Rattle.kc_gzip.proofs.unpacked_intakes.skip_by_blocks.Goals as goal

pub returns-in_err-count : goal.returns-in_err-count
returns-in_err-count g c =
    let seen = g.S.Source.seen in
    let p = err_from_is_err_and c.from_residual.result c.from_residual.ensures.1 in
    rw (p.1, p.2) (skipping-stops (seen c.args.source.now) (seen c.reading.source) (seen c.take.new.source) c.args.unpacking.now c.reading.unpacking
    c.take.new.unpacking c.args.limit c.reading.skipped c.in_err-count.field-0.0 c.reading.invariant c.take.ensures.goes c.in_err-count.ensures.stops)
