use Rattle.std.proofs.Common.{Err, Global, List, None, Ok, String, Vec, map, refl, subst}
use Rattle.std.specs.Prelude.{string_bytes}
use Rattle.std.proofs.lemmas.Result.{err_from_is_err_and}
use Rattle.kc_io.specs.Sinks.{Written}
use Rattle.kc_report.specs.Querying.{query_text, Answers as Queried}
use Rattle.kc_report.specs.declared.report_faults.ReportFault.{ReportFault}
use Rattle.kc_report.specs.declared.report_faults.ReportFault.TheVariants as report
use Rattle.kc_report.proofs.AskedLemmas.{answers_alike}
use Rattle.kc_tool.specs.Faults.{report_fault}
use Rattle.kc_tool.specs.Commands.{Answers}
use Rattle.kc_tool.specs.GivenSources.{seen_in}
use Rattle.kc_tool.specs.Tallies.{TableSeen, given}
use Rattle.kc_tool.specs.declared.commands.Task.TheVariants.{Query}
use Rattle.kc_tool.specs.declared.told.Told.TheVariants.{Nothing}
use Rattle.kc_tool.proofs.CommandsLemmas.{answered}
use Rattle.kc_tool.proofs.commands.query_table.Goals as goal

-- Why a query was not written.
unanswered : (words : Vec (String Global) Global) (table : TableSeen) (old new : Written) (why : ReportFault)
    → Queried {A = Unit {0}} old new table.0 (map string_bytes words.items) (Err why) → Answers (Query words) table old new (Err (report_fault why))
unanswered words table old new (report.BadWord number) h = (h.1, h.0)
unanswered words table old new report.Write h = (query_text table.0 (map string_bytes words.items), (h.0, refl), h.1)
unanswered words table old new report.BadHeader h = absurd h
unanswered words table old new (report.BadRow line) h = absurd h
unanswered words table old new report.BadEnd h = absurd h
unanswered words table old new report.TableTooLong h = absurd h
unanswered words table old new report.TableRead h = absurd h
unanswered words table old new report.Memory h = absurd h
unanswered words table old new report.Unlike h = absurd h
unanswered words table old new report.TooLarge h = absurd h
unanswered words table old new report.BrokenGzip h = absurd h
unanswered words table old new report.ShortGzip h = absurd h

pub returns-clause-done : goal.returns-clause-done
returns-clause-done g c =
    let before = given None (seen_in g.R.Source.seen g.F.Source.seen c.args.sources.now) in
    let after = given None (seen_in g.R.Source.seen g.F.Source.seen c.asked_rows.new.sources) in
    let old = g.W.Sink.seen c.args.output.now in
    let new = g.W.Sink.seen c.query.new.writer in
    let words = c.args.words.now in
    let (table, gave, has) = rw c.deref.ensures.value at c.in_ok-few.ensures.counts in
    let done : Unit {0} = tt in
    let queried = subst (λ (v : List (String Global)). Queried {A = Unit {0}} old new c.in_ok-few.few (map string_bytes v) (Ok done))
    c.deref-2.ensures.value c.in_ok-query.ensures in
    let alike = answers_alike {A = Unit {0}} old new table.0 c.in_ok-few.few (map string_bytes words.items) (Ok done) has queried in
    let answers : Answers (Query words) table old new (Ok Nothing) =
    (query_text table.0 (map string_bytes words.items), (alike.0, refl), alike.1, refl) in
    answered (Query words) (record { given = before; output = old }) (record { given = after; output = new }) table (Ok Nothing) gave answers

pub returns-in_err-query-clause-done : goal.returns-in_err-query-clause-done
returns-in_err-query-clause-done g c =
    let before = given None (seen_in g.R.Source.seen g.F.Source.seen c.args.sources.now) in
    let after = given None (seen_in g.R.Source.seen g.F.Source.seen c.asked_rows.new.sources) in
    let old = g.W.Sink.seen c.args.output.now in
    let new = g.W.Sink.seen c.query.new.writer in
    let words = c.args.words.now in
    let again = c.from_residual-in_err-query in
    let p = err_from_is_err_and again.result again.ensures.1 in
    let why = c.in_err-query.field-0.0 in
    let (table, gave, has) = rw c.deref.ensures.value at c.in_ok-few.ensures.counts in
    let queried = subst (λ (v : List (String Global)). Queried {A = Unit {0}} old new c.in_ok-few.few (map string_bytes v) (Err why))
    c.deref-2.ensures.value c.in_err-query.ensures in
    let alike = answers_alike {A = Unit {0}} old new table.0 c.in_ok-few.few (map string_bytes words.items) (Err why) has queried in
    rw (p.1, p.2) (answered (Query words) (record { given = before; output = old }) (record { given = after; output = new })
    table (Err (report_fault why)) gave (unanswered words table old new why alike))
