use Rattle.std.proofs.Common.{[], inl, inr}
use Rattle.std.proofs.lemmas.Result.{err_from_is_err_and}
use Rattle.kc_select.proofs.ApartLemmas.{front_none, writes_ok, writes_err}
use Rattle.kc_select.proofs.TextLemmas.{on_ok, on_err, taken_drains}
use Rattle.kc_select.proofs.mates_apart.write_both.Goals as goal

pub returns-in_err-write_out-clause-err : goal.returns-in_err-write_out-clause-err
returns-in_err-write_out-clause-err g c =
    let h = rw c.as_slice.ensures at c.in_err-write_out.ensures in
    let p = err_from_is_err_and c.from_residual.result c.from_residual.ensures.1 in rw p.1
    (inl (h, front_none (g.W.Sink.seen c.args.writers.now.second) c.args.blocks.now.second))

pub returns-clause-ok : goal.returns-clause-ok
returns-clause-ok g c =
    let first = rw c.as_slice.ensures at c.in_ok-write_out.ensures in
    let w = rw c.as_slice-2.ensures at c.write_out-2.ensures in
    on_ok c.write_out-2.result (λ second. (first, second))
    (writes_ok (g.W.Sink.seen c.args.writers.now.second) (g.W.Sink.seen c.write_out-2.new.writer) c.args.blocks.now.second
    c.write_out-2.result w)

pub returns-clause-err : goal.returns-clause-err
returns-clause-err g c =
    let first = rw c.as_slice.ensures at c.in_ok-write_out.ensures in
    let w = rw c.as_slice-2.ensures at c.write_out-2.ensures in
    on_err c.write_out-2.result (λ h. inr (([], taken_drains first.taken), h))
    (writes_err (g.W.Sink.seen c.args.writers.now.second) (g.W.Sink.seen c.write_out-2.new.writer) c.args.blocks.now.second
    c.write_out-2.result w)
