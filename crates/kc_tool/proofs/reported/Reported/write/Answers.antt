use Rattle.std.proofs.Common.{◌≡◌, None, Some, subst}
use Rattle.kc_io.specs.Sinks.{Written}
use Rattle.kc_tally.specs.Tally.{TallySeen}
use Rattle.kc_tool.specs.Reports.{WritesText, report_text}
use Rattle.kc_tool.proofs.reported.Reported.write.Goals as goal

pub returns-in-Ok-Some : goal.returns-in-Ok-Some
returns-in-Ok-Some g c tally known =
    let found = c.in-Ok-Some.field-0-is in
    let is : c.in-Ok-Some.field-0 ≡ Some c.in-Ok-Some.tally = cc in
    let gave = rw is at (c.in-Ok-Some.ensures (tally, c.args.origin) known) in
    let new = g.W.Sink.seen c.write_report.new.writer in
    subst (λ (v : TallySeen). WritesText (report_text c.args.report (v, c.args.origin)) (g.W.Sink.seen c.args.writer.now) new c.write_report.result)
    gave.0 (subst (λ (v : Written). WritesText (report_text c.args.report (c.in-Ok-Some.tally.now, c.args.origin)) v new c.write_report.result)
    gave.1 c.write_report.ensures)

pub returns-in-Ok-None : goal.returns-in-Ok-None
returns-in-Ok-None g c tally known =
    let found = c.in-Ok-None.field-0-is in
    let is : c.in-Ok-None.field-0 ≡ None = cc in
    rw is at (c.in-Ok-None.ensures (tally, c.args.origin) known)
