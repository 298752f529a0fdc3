use Rattle.std.proofs.Common.{List, ℕ}
use Rattle.std.proofs.lemmas.Result.{err_from_is_err_and}
use Rattle.kc_fastx.specs.Titles.{record_of}
use Rattle.kc_select.specs.Pairs.{text_by}
use Rattle.kc_select.proofs.TextLemmas.{begins_first, drains_texts, drains_then_begins, on_ok, on_err}
use Rattle.kc_select.proofs.selected_pairs.put_mates.Goals as goal

pub returns-in_err-put_kept-clause-err : goal.returns-in_err-put_kept-clause-err
returns-in_err-put_kept-clause-err g c =
    let one : List ℕ = text_by c.args.selection.now.selector (record_of c.args.reading.now.titles.first c.args.reads.now.first) in
    let other : List ℕ = text_by c.args.selection.now.selector (record_of c.args.reading.now.titles.second c.args.reads.now.second) in
    let h = rw (c.selector-selector.ensures, c.first_title.ensures) at c.in_err-put_kept.ensures.err in
    let p = err_from_is_err_and c.from_residual.result c.from_residual.ensures.1 in rw p.1
    (begins_first c.args.block.now one other h)

pub returns-clause-ok : goal.returns-clause-ok
returns-clause-ok g c =
    let one : List ℕ = text_by c.args.selection.now.selector (record_of c.args.reading.now.titles.first c.args.reads.now.first) in
    let other : List ℕ = text_by c.args.selection.now.selector (record_of c.args.reading.now.titles.second c.args.reads.now.second) in
    let d = rw (c.selector-selector.ensures, c.first_title.ensures) at c.in_ok-put_kept.ensures.ok in
    on_ok c.put_kept-2.result (drains_texts c.args.block.now one other d)
    (rw (c.selector-selector.ensures, c.second_title-title.ensures) at c.put_kept-2.ensures.ok)

pub returns-clause-err : goal.returns-clause-err
returns-clause-err g c =
    let one : List ℕ = text_by c.args.selection.now.selector (record_of c.args.reading.now.titles.first c.args.reads.now.first) in
    let other : List ℕ = text_by c.args.selection.now.selector (record_of c.args.reading.now.titles.second c.args.reads.now.second) in
    let d = rw (c.selector-selector.ensures, c.first_title.ensures) at c.in_ok-put_kept.ensures.ok in
    on_err c.put_kept-2.result (drains_then_begins c.args.block.now one other d)
    (rw (c.selector-selector.ensures, c.second_title-title.ensures) at c.put_kept-2.ensures.err)
