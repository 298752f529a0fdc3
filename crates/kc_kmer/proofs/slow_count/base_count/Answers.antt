use Rattle.std.proofs.Common.{length, sum_by, ap, ◌∙◌, arith}
use Rattle.std.proofs.lemmas.List.{take_all}
use Rattle.kc_fastx.specs.Reads.{Read}
use Rattle.kc_kmer.proofs.slow_count.base_count.Goals as goal

pub returns : goal.returns
returns c =
    let whole = ap (sum_by (λ (read : Read). length read.bases)) (take_all c.loop-read.read-index c.args.reads.now c.loop-read-test.false) in
    let count = c.loop-read.invariant.0 in
    let fits = c.loop-read.invariant.1 in
    (omega (arith, count, whole, fits), count ∙ whole)
