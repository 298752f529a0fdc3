use Rattle.std.proofs.Common.{◌∷◌, ◌∙◌, ap, sym}
use Rattle.kc_fastx.specs.Lines.{lines}
use Rattle.kc_fastx.proofs.LinesLemmas.{IsCut, cut_found, cut_last}
use Rattle.kc_report.proofs.word_list.cut_line.Goals as goal
use Rattle.kc_report.proofs.word_list.cut_line.Goals.{in-Some, in-None}

cut : (c : goal.After-without_return) → IsCut c.args.text.now c.match-memchr.line.now c.match-memchr.rest.now
cut c =
    let bytes = c.args.text.now in
    elim c.match-memchr.branch [
      | in-Some w ↦ rw (w.line-is, w.rest-is)
          (cut_found bytes w.in-Some.end w.in-Some.ensures.0.high w.in-Some.ensures.1 w.in-Some.ensures.0.before)
      | in-None w ↦ rw (w.line-is, w.rest-is) (cut_last bytes c.requires w.in-None.ensures)
    ]

pub returns-clause-lines : goal.returns-clause-lines
returns-clause-lines c =
    (cut c).lines ∙ ap (λ v. v ∷ lines c.match-memchr.rest.now) (sym c.without_return.ensures)
