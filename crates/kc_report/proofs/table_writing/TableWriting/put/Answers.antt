use Rattle.std.proofs.Common.{refl, sym, subst}
use Rattle.std.proofs.lemmas.Result.{err_from_is_err_and}
use Rattle.kc_report.specs.RowsWritten.{HasPutRows, WritingStand, front_of}
use Rattle.kc_report.proofs.WritingLemmas.{drains_begun, puts_row}
use Rattle.kc_report.proofs.table_writing.TableWriting.put.Goals as goal

pub returns-in_err-make_room-clause-begun : goal.returns-in_err-make_room-clause-begun
returns-in_err-make_room-clause-begun g c = λ start header rows put.
    let now = g.W.Sink.seen c.args.writer.now in
    let stood = subst (λ (s : WritingStand). HasPutRows start now header rows s) (sym c.self.view_is) put in
    let p = err_from_is_err_and c.from_residual.result c.from_residual.ensures.1 in
    rw p.1 (drains_begun start now (g.W.Sink.seen c.make_room.new.writer) (front_of header rows) _ stood.drained
    c.in_err-make_room.ensures.err)

pub returns-clause-put : goal.returns-clause-put
returns-clause-put g c = λ start header rows put.
    let now = g.W.Sink.seen c.args.writer.now in
    let stood = subst (λ (s : WritingStand). HasPutRows start now header rows s) (sym c.self.view_is) put in
    puts_row start now (g.W.Sink.seen c.make_room.new.writer) header rows c.args.row _ _ c.make_room.new.self stood
    c.in_ok-make_room.ensures.ok c.push_columns.ensures.pushed refl refl refl
