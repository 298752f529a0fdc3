use Rattle.std.proofs.Common.{◌∙◌, ap, refl, subst, sym}
use Rattle.kc_fastx.specs.Lines.{Cursor, Passes, line_count, lines, skip_blanks}
use Rattle.kc_fastx.proofs.RecordsLemmas.{TakesLine, line_count-more, passes_both, passes_none}
use Rattle.kc_fastx.proofs.TailLemmas.{skip_blanks-next}
use Rattle.kc_fastx.proofs.text_lines.LineCursor.pass_blanks.Goals as goal

pub loop-ahead-init : goal.loop-ahead-init
loop-ahead-init c = rw (← c.self.view_is)
    (record { left = refl; counted = refl; passes = passes_none _; fits = c.self.invariant })

pub loop-ahead-preserved : goal.loop-ahead-preserved
loop-ahead-preserved c =
    let bytes = c.loop-ahead.self-inside.left.now in
    let now : Cursor = record { taken = c.loop-ahead.self-inside.taken; left = lines bytes; bytes = bytes } in
    let next = c.next_line.new.self in
    let line = c.in-Some-empty.field-0.now in
    let before = c.loop-ahead.invariant in
    let step : TakesLine now next line = record { left = c.in-Some-empty.ensures.some; taken = c.in-Some-empty.ensures.taken } in
    record {
      left = ap (λ (s : Cursor). skip_blanks s.left) c.ahead.view_is
          ∙ skip_blanks-next now next line step c.in-Some-empty.len_below ∙ before.left;
      counted = ap line_count c.ahead.view_is ∙ line_count-more now next line step ∙ before.counted;
      passes = subst (λ v. Passes c.args.self.now v) (sym c.ahead.view_is)
          (passes_both _ now next before.passes c.in-Some-empty.ensures.passes);
      fits = c.ahead.invariant;
    }
