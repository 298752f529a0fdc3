use Rattle.std.proofs.Common.{◌≡◌, ◌-◌, ◌+◌, ◌<◌, ◌≤◌, ◌∙◌, true, false, length, ap, subst, sym, arith}
use Rattle.std.specs.List.{list_all}
use Rattle.kc_fastx.specs.declared.read_faults.FastxFault.TheVariants.{BadQuality, LongQuality, Truncated}
use Rattle.kc_fastx.specs.Fastq.{QualityFails}
use Rattle.kc_fastx.specs.Lines.{Cursor, line_count}
use Rattle.kc_fastx.specs.Reads.{is_quality_byte}
use Rattle.kc_fastx.proofs.RecordsLemmas.{TakesLine, passes_both}
use Rattle.kc_fastx.proofs.FastqLemmas.{quality_more, quality_ends, quality_bad, quality_long}
use Rattle.kc_fastx.proofs.fastq.take_quality.Goals as goal

pub returns-in_default-clause-err : goal.returns-in_default-clause-err
returns-in_default-clause-err c =
    let start = c.args.lines.now in
    let now = c.lines.lines in
    let number = ap (λ (s : Cursor). s.taken) (c.lines-in-lines.view_is ∙ c.in_default.ensures.unchanged) in
    let short : length c.lines.quals.items < c.args.need = omega arith in
    subst (λ n. QualityFails (line_count start) c.args.need start.left (Truncated n)) (sym number)
    (quality_ends c.args.need start now c.lines.quals.items c.lines.invariant.so_far short c.in_default.ensures.none)

pub returns-then-not-are_quality_bytes-clause-err : goal.returns-then-not-are_quality_bytes-clause-err
returns-then-not-are_quality_bytes-clause-err c =
    let start = c.args.lines.now in
    let next = c.next_line.new.self in
    let line = c.in-Some.line.now in
    let step : TakesLine c.lines.lines next line = record { left = c.in-Some.ensures.some; taken = c.in-Some.ensures.taken } in
    let number = ap (λ (s : Cursor). s.taken) c.lines-in-lines.view_is in
    let short : length c.lines.quals.items < c.args.need = omega arith in
    let bad : list_all is_quality_byte line ≡ false = cc in
    subst (λ n. QualityFails (line_count start) c.args.need start.left (BadQuality n)) (sym number)
    (quality_bad c.args.need start c.lines.lines next c.lines.quals.items line c.lines.invariant.so_far short step bad)

pub returns-then-line-need-clause-err : goal.returns-then-line-need-clause-err
returns-then-line-need-clause-err c =
    let start = c.args.lines.now in
    let next = c.next_line.new.self in
    let line = c.in-Some.line.now in
    let step : TakesLine c.lines.lines next line = record { left = c.in-Some.ensures.some; taken = c.in-Some.ensures.taken } in
    let number = ap (λ (s : Cursor). s.taken) c.lines-in-lines.view_is in
    let short : length c.lines.quals.items < c.args.need = omega arith in
    let good : list_all is_quality_byte line ≡ true = cc in
    let lacking : c.len-in-lines.result ≡ length c.lines.quals.items = cc in
    let long : c.args.need - length c.lines.quals.items < length line = omega (arith, lacking, c.if-line-need.true) in
    subst (λ n. QualityFails (line_count start) c.args.need start.left (LongQuality n)) (sym number)
    (quality_long c.args.need start c.lines.lines next c.lines.quals.items line c.lines.invariant.so_far short step good long)

pub lines-preserved : goal.lines-preserved
lines-preserved c =
    let line = c.in-Some.line in
    let next = c.next_line.new.self in
    let step : TakesLine c.lines.lines next line.now = record { left = c.in-Some.ensures.some; taken = c.in-Some.ensures.taken } in
    let short : length c.lines.quals.items < c.args.need = omega arith in
    let fits : length c.lines.quals.items + length line.now ≤ c.args.need = omega arith in
    let good : list_all is_quality_byte line.now ≡ true = cc in
    let more = quality_more c.args.need c.args.lines.now c.lines.lines next c.lines.quals.items line.now
    c.lines.invariant.so_far (record { short = short; step = step; accepted = good; fits = fits }) in
    rw c.in_ok-extend_from_slice.ensures.items
    (record {
      so_far = more;
      passes = passes_both c.args.lines.now c.lines.lines next c.lines.invariant.passes c.in-Some.ensures.passes;
    })
