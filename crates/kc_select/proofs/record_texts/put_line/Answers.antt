use Rattle.std.proofs.Common.{◌++◌, ◌∷◌, []}
use Rattle.std.proofs.lemmas.Result.{err_from_is_err_and}
use Rattle.kc_fastx.specs.Lines.{line_feed}
use Rattle.kc_select.proofs.TextLemmas.{begins_first, drains_texts, drains_then_begins, on_ok, on_err}
use Rattle.kc_select.proofs.record_texts.put_line.Goals as goal

pub returns-in_err-put-clause-err : goal.returns-in_err-put-clause-err
returns-in_err-put-clause-err g c =
    let p = err_from_is_err_and c.from_residual.result c.from_residual.ensures.1 in rw p.1
    (begins_first c.args.block.now (c.args.mark.now ++ c.args.text.now) (line_feed ∷ [])
    (begins_first c.args.block.now c.args.mark.now c.args.text.now c.in_err-put.ensures.err))

pub returns-in_err-put-2-clause-err : goal.returns-in_err-put-2-clause-err
returns-in_err-put-2-clause-err g c =
    let p = err_from_is_err_and c.from_residual-in_err-put-2.result c.from_residual-in_err-put-2.ensures.1 in rw p.1
    (begins_first c.args.block.now (c.args.mark.now ++ c.args.text.now) (line_feed ∷ [])
    (drains_then_begins c.args.block.now c.args.mark.now c.args.text.now c.in_ok-put.ensures.ok c.in_err-put-2.ensures.err))

pub returns-clause-ok : goal.returns-clause-ok
returns-clause-ok g c =
    let both = drains_texts c.args.block.now c.args.mark.now c.args.text.now c.in_ok-put.ensures.ok c.in_ok-put-2.ensures.ok in
    on_ok c.put-3.result (drains_texts c.args.block.now (c.args.mark.now ++ c.args.text.now) (line_feed ∷ []) both) c.put-3.ensures.ok

pub returns-clause-err : goal.returns-clause-err
returns-clause-err g c =
    let both = drains_texts c.args.block.now c.args.mark.now c.args.text.now c.in_ok-put.ensures.ok c.in_ok-put-2.ensures.ok in
    on_err c.put-3.result (drains_then_begins c.args.block.now (c.args.mark.now ++ c.args.text.now) (line_feed ∷ []) both)
    c.put-3.ensures.err
