use Rattle.std.proofs.Common.{◌∙◌, Err, ap, inl, inr, refl, subst}
use Rattle.std.proofs.lemmas.Result.{err_from_is_err_and}
use Rattle.kc_tool.specs.Reports.{WritesText, report_text}
use Rattle.kc_tool.specs.Tallies.{TableSeen}
use Rattle.kc_tool.specs.declared.reports.Report.{Report}
use Rattle.kc_tool.specs.declared.told.CountedWords.{CountedWords}
use Rattle.kc_tool.proofs.ReportsLemmas.{still_fault}
use Rattle.kc_tool.proofs.reports.report_as.Goals as goal

pub returns-clause-done : goal.returns-clause-done
returns-clause-done g c =
    let known = c.in_ok-summary.ensures.tally in
    let written = rw c.report_of-report.ensures.asked at (c.in_ok-write.ensures known.tally known.knows) in
    let words = rw c.reads_of.ensures at (c.words.ensures known.tally known.knows) in
    inl ((known.tally, c.in_ok-summary.origin), known.holds, written, words)

pub returns-in_err-write-clause-done : goal.returns-in_err-write-clause-done
returns-in_err-write-clause-done g c =
    let known = c.in_ok-summary.ensures.tally in
    let p = err_from_is_err_and c.from_residual-in_err-write.result c.from_residual-in_err-write.ensures.1 in
    let table : TableSeen = (known.tally, c.in_ok-summary.origin) in
    let old = g.W.Sink.seen c.args.writer.now in
    let new = g.W.Sink.seen c.write.new.writer in
    let fault = c.in_err-write.field-0.0 in
    let begun = subst (λ (v : Report). WritesText {A = Unit {0}} (report_text v table) old new (Err fault)) c.report_of-report.ensures.asked
    (c.in_err-write.ensures known.tally known.knows) in
    rw (p.1, p.2) (inl (table, known.holds, still_fault (Unit {0}) CountedWords _ old new fault begun, tt))

pub returns-in_err-summary-clause-done : goal.returns-in_err-summary-clause-done
returns-in_err-summary-clause-done g c =
    let p = err_from_is_err_and c.from_residual.result c.from_residual.ensures.1 in
    inr (c.in_err-summary.field-0.0, p.1 ∙ ap Err p.2, c.in_err-summary.ensures.fault, refl)
