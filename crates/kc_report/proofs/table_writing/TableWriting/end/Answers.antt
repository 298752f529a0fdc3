use Rattle.std.proofs.Common.{◌≡◌, ◌++◌, ◌∙◌, sym, subst}
use Rattle.std.proofs.lemmas.Result.{err_from_is_err_and}
use Rattle.kc_report.specs.Table.{end_line, end_text, ended}
use Rattle.kc_report.specs.RowsWritten.{HasPutRows, WritingStand}
use Rattle.kc_report.proofs.WritingLemmas.{ends_text, fails_to_end}
use Rattle.kc_report.proofs.table_writing.TableWriting.end.Goals as goal

pub returns-in_err-make_room : goal.returns-in_err-make_room
returns-in_err-make_room g c = λ start header rows put.
    let now = g.W.Sink.seen c.args.writer.now in
    let stood = subst (λ (s : WritingStand). HasPutRows start now header rows s) (sym c.self.view_is) put in
    let p = err_from_is_err_and c.from_residual.result c.from_residual.ensures.1 in
    rw p.1 (fails_to_end start now (g.W.Sink.seen c.make_room.new.writer) header rows _ stood c.in_err-make_room.ensures.err)

pub returns : goal.returns
returns g c = λ start header rows put.
    let now = g.W.Sink.seen c.args.writer.now in
    let stood = subst (λ (s : WritingStand). HasPutRows start now header rows s) (sym c.self.view_is) put in
    let pushed : c.push_end.new.block ≡ c.make_room.new.self ++ end_text rows =
    c.push_end.ensures ∙ (λ i. c.make_room.new.self ++ ended (end_line (stood.distinct i) (stood.total i))) in
    ends_text start now (g.W.Sink.seen c.make_room.new.writer) (g.W.Sink.seen c.write_out.new.writer) header rows _
    c.make_room.new.self c.push_end.new.block c.write_out.result stood c.in_ok-make_room.ensures.ok pushed
    (rw c.as_slice.ensures at c.write_out.ensures)
