use Rattle.std.proofs.Common.{rules, ◌≡◌, ◌∙◌, ap, sym, true, false, arith}
use Rattle.std.proofs.lemmas.Grind.{common_steps}
use Rattle.std.specs.List.{list_all}
use Rattle.kc_fastx.specs.Lines.{Cursor, begins_with, next_begins_with}
use Rattle.kc_fastx.specs.Reads.{is_sequence_byte}
use Rattle.kc_fastx.proofs.LinesLemmas.{left-begins}
use Rattle.kc_fastx.proofs.RecordsLemmas.{TakesLine, sequence_bad, sequence_more, passes_both}
use Rattle.kc_fastx.proofs.records.take_sequence.Goals as goal

pub lines-preserved : goal.lines-preserved
lines-preserved c =
    let good : list_all is_sequence_byte c.in-Some.line.now ≡ true = cc in
    let step : TakesLine c.lines.lines c.next_line.new.self c.in-Some.line.now = record { left = c.in-Some.ensures.some; taken = c.in-Some.ensures.taken } in
    let bytes = c.lines-in-lines.inside.left.now in
    let front : begins_with c.args.stop bytes ≡ false = first_of (search rules, grind (arith, common_steps)) in
    let goes_on : begins_with c.args.stop c.in-Some.line.now ≡ false =
    sym (ap (next_begins_with c.args.stop) c.in-Some.ensures.some)
    ∙ sym (left-begins c.args.stop bytes c.requires.stop (ap (λ (s : Cursor). s.left) c.lines-in-lines.view_is))
    ∙ front in
    let more = sequence_more c.args.stop c.args.lines.now c.lines.lines c.next_line.new.self
    c.lines.bases.items c.in-Some.line.now
    c.lines.invariant.so_far (record { step = step; goes_on = goes_on; accepted = good }) in
    rw c.in_ok-extend_from_slice.ensures.items
    (record {
      so_far = more;
      passes = passes_both c.args.lines.now c.lines.lines c.next_line.new.self c.lines.invariant.passes
          c.in-Some.ensures.passes;
    })

pub returns-then-not-are_sequence_bytes-clause-err : goal.returns-then-not-are_sequence_bytes-clause-err
returns-then-not-are_sequence_bytes-clause-err c =
    let bad : list_all is_sequence_byte c.in-Some.line.now ≡ false = cc in
    let step : TakesLine c.lines.lines c.next_line.new.self c.in-Some.line.now = record { left = c.in-Some.ensures.some; taken = c.in-Some.ensures.taken } in
    let bytes = c.lines-in-lines.inside.left.now in
    let front : begins_with c.args.stop bytes ≡ false = first_of (search rules, grind (arith, common_steps)) in
    let goes_on : begins_with c.args.stop c.in-Some.line.now ≡ false =
    sym (ap (next_begins_with c.args.stop) c.in-Some.ensures.some)
    ∙ sym (left-begins c.args.stop bytes c.requires.stop (ap (λ (s : Cursor). s.left) c.lines-in-lines.view_is))
    ∙ front in
    rw (ap (λ (s : Cursor). s.taken) c.lines-in-lines-2.view_is)
    (sequence_bad c.args.stop c.args.lines.now c.lines.lines c.next_line.new.self c.lines.bases.items c.in-Some.line.now
    c.lines.invariant.so_far (record { step = step; goes_on = goes_on; accepted = bad }))
