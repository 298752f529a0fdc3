use Rattle.std.proofs.Common.{length, map, sym, ◌∙◌}
use Rattle.std.specs.Prelude.{string_bytes}
use Rattle.std.proofs.lemmas.Bool.{eqb-true}
use Rattle.kc_report.proofs.WordListLemmas.{words_blank}
use Rattle.kc_report.proofs.word_list.push_words.Goals as goal

pub lines-preserved : goal.lines-preserved
lines-preserved c =
    let (line, behind) = c.cut_line.result in
    words_blank (map string_bytes c.lines.words.items) c.lines.rest.now line.now behind.now c.lines.invariant
    c.cut_line.ensures.lines (eqb-true (length line.now) 0 (sym c.is_empty-in-lines.ensures ∙ c.if-not-is_empty.false))
