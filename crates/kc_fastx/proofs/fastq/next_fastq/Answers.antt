use Rattle.std.proofs.Common.{rules, ◌≡◌, ◌∙◌, true, length, subst, vec_len, arith}
use Rattle.std.proofs.lemmas.Grind.{common_steps}
use Rattle.std.proofs.lemmas.Result.{err_from_is_err_and}
use Rattle.kc_fastx.specs.Faults.{UnlessMemory}
use Rattle.kc_fastx.specs.Lines.{line_count, begins_with}
use Rattle.kc_fastx.specs.Fastq.{FastqFails, QualityFails, at_sign}
use Rattle.kc_fastx.proofs.RecordsLemmas.{TakesLine, TakesTitle, passes_both}
use Rattle.kc_fastx.proofs.FastqLemmas.{unless_memory, next_quality_fails}
use Rattle.kc_fastx.proofs.fastq.next_fastq.Goals as goal

pub returns-in_err-quals-clause-err : goal.returns-in_err-quals-clause-err
returns-in_err-quals-clause-err c =
    let now = c.args.lines.now in
    let next = c.next_line.new.self in
    let middle = c.take_sequence.new.lines in
    let after = c.next_line-2.new.self in
    let bases = c.in_ok-bases.bases.items in
    let is : begins_with at_sign c.in-Some.title.now ≡ true = first_of (search rules, cc, grind (arith, common_steps)) in
    let title : TakesTitle at_sign now next = record {
      title = c.in-Some.title.now;
      step = record { left = c.in-Some.ensures.some; taken = c.in-Some.ensures.taken };
      is_title = is;
    } in
    let plus : TakesLine middle after c.in-Some-next_line._plus.now = record {
      left = c.in-Some-next_line.ensures.some;
      taken = c.in-Some-next_line.ensures.taken;
    } in
    let fails = unless_memory (QualityFails (line_count after) (length bases) after.left) (FastqFails (line_count now) now.left)
    (next_quality_fails now next middle after bases c.in-Some-next_line._plus.now c.requires title c.in_ok-bases.ensures.ok
    c.in_ok-bases.ensures.ends c.in_ok-bases.ensures.counted plus) in
    let long : vec_len c.in_ok-bases.bases ≡ length bases = search rules in
    let failed = subst (λ n. UnlessMemory (QualityFails (line_count after) n after.left) c.in_err-quals.field-0.0)
    (c.len-2.ensures ∙ long) c.in_err-quals.ensures.err in
    let p = err_from_is_err_and c.from_residual-in_err-quals.result c.from_residual-in_err-quals.ensures.1 in
    rw (p.1, p.2) (fails c.in_err-quals.field-0.0 failed)

pub returns-clause-passes : goal.returns-clause-passes
returns-clause-passes c =
    passes_both _ c.next_line.new.self _ c.in-Some.ensures.passes
    (passes_both _ c.take_sequence.new.lines _ c.in_ok-bases.ensures.passes
    (passes_both _ c.next_line-2.new.self _ c.in-Some-next_line.ensures.passes c.in_ok-quals.ensures.passes))
