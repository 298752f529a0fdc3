use Rattle.std.proofs.lemmas.Result.{err_from_is_err_and}
use Rattle.kc_select.proofs.TextLemmas.{begins_more, drains_more, drains_begins, taken_drains, on_err, handed_err}
use Rattle.kc_select.proofs.record_texts.put_long.Goals as goal

pub returns-in_err-write_all-clause-err : goal.returns-in_err-write_all-clause-err
returns-in_err-write_all-clause-err g c =
    let p = err_from_is_err_and c.from_residual.result c.from_residual.ensures.1 in rw p.1
    (begins_more (rw c.as_slice.ensures at c.in_err-write_all.ensures.handed_over) c.args.bytes.now)

pub returns-clause-err : goal.returns-clause-err
returns-clause-err g c =
    let taken = rw c.as_slice.ensures at c.in_ok-write_all.ensures.handed_over in
    on_err c.write_all-2.result (drains_begins (drains_more (taken_drains taken) c.args.bytes.now))
    (handed_err _ _ c.write_all-2.result c.args.bytes.now c.write_all-2.ensures.handed_over)
