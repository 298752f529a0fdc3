use Rattle.std.proofs.Common.{◌∷◌, [], ◌∙◌, subst}
use Rattle.std.proofs.lemmas.Result.{err_from_is_err_and}
use Rattle.kc_io.specs.Sinks.{HasBegun, Writes}
use Rattle.kc_tool.proofs.FaultLinesLemmas.{failed_first, line_is, rest_written}
use Rattle.kc_tool.proofs.fault_lines.write_line.Goals as goal

pub returns-in_err-put_text : goal.returns-in_err-put_text
returns-in_err-put_text g c =
    let p = err_from_is_err_and c.from_residual.result c.from_residual.ensures.1 in
    let line = line_is c.args.fault.now c.new-line.ensures c.push.ensures.pushed c.push_front.ensures.pushed (c.as_bytes.ensures.value ∙ c.name_of.ensures) in
    rw p.1 (subst (λ v. HasBegun (g.W.Sink.seen c.args.writer.now) (g.W.Sink.seen c.put_text.new.writer) v) line (failed_first (10 ∷ []) c.in_err-put_text.ensures.err))

pub returns : goal.returns
returns g c =
    let line = line_is c.args.fault.now c.new-line.ensures c.push.ensures.pushed c.push_front.ensures.pushed (c.as_bytes.ensures.value ∙ c.name_of.ensures) in
    subst (λ v. Writes (g.W.Sink.seen c.args.writer.now) (g.W.Sink.seen c.write_out.new.writer) c.write_out.result v) line
    (rest_written _ (10 ∷ []) c.write_out.result c.in_ok-put_text.ensures.ok (rw (c.as_slice.ensures, c.push-2.ensures.pushed) at c.write_out.ensures))
