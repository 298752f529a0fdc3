use Rattle.std.proofs.Common.{◌∙◌, [], Err, ap, inr, map, refl, subst}
use Rattle.std.proofs.lemmas.Result.{err_from_is_err_and}
use Rattle.std.specs.Prelude.{option_map}
use Rattle.kc_tool.specs.NamedSources.{seen_of}
use Rattle.kc_command.specs.Settings.{rule_of}
use Rattle.kc_tool.specs.Tallies.{Counts, RefusesCount, given, words_of}
use Rattle.kc_tool.specs.declared.tool_faults.ToolFault.TheVariants.{Memory}
use Rattle.kc_tool.proofs.ReportsLemmas.{put_otherwise, reads_reported}
use Rattle.kc_tool.proofs.SourcesLemmas.{gave_list, list_left, sources_counted, sources_refused}
use Rattle.kc_tool.proofs.reports.count_reads.Goals as goal

pub returns : goal.returns
returns g c =
    let only = option_map g.Q.Source.seen c.args.only in
    let settings = c.args.options.now in
    let is = ap (seen_of g.R.Source.seen) c.deref_mut.ensures.value ∙ c.in_ok-sources.ensures in
    let list = c.in_ok-list.ensures.list in
    let words = words_of c.in_ok-list.list in
    let after = seen_of g.R.Source.seen c.report_sources.new.sources in
    let later = given list.0 after in
    let told = reads_reported (given only (map g.R.Source.seen c.args.sources.items)) settings (g.W.Sink.seen c.args.writer.now)
    (g.W.Sink.seen c.report_sources.new.writer) c.report_sources.result
    (put_otherwise settings c.report_sources.result
    (λ table h. (later, subst (λ v. Counts (given only v) later settings table) is (sources_counted words only list.0 _ after settings list.1 table h)))
    (λ fault is_err h. (later, subst (λ v. RefusesCount (given only v) later settings fault) is (sources_refused words only list.0 _ after settings list.1 fault h)))
    c.report_sources.ensures) in
    rw c.without_counts.ensures (record { written = told.0; begun = told.1; refused = told.2 })

pub returns-in_err-list : goal.returns-in_err-list
returns-in_err-list g c =
    let only = option_map g.Q.Source.seen c.args.only in
    let sources = map g.R.Source.seen c.args.sources.items in
    let again = c.from_residual in
    let p = err_from_is_err_and again.result again.ensures.1 in
    let fault = c.in_err-list.field-0.0 in
    let old = g.W.Sink.seen c.args.writer.now in
    let told = reads_reported (given only sources) c.args.options.now old old (Err fault)
    (inr (fault, refl, list_left only sources c.args.options.now fault c.in_err-list.ensures.fault, refl)) in
    rw (p.1, p.2) (record { written = told.0; begun = told.1; refused = told.2 })

pub returns-in_err-sources : goal.returns-in_err-sources
returns-in_err-sources g c =
    let again = c.from_residual-in_err-sources in
    let p = err_from_is_err_and again.result again.ensures.1 in
    let old = g.W.Sink.seen c.args.writer.now in
    let only = option_map g.Q.Source.seen c.args.only in
    let list = c.in_ok-list.ensures.list in
    let gave = gave_list (rule_of c.args.options.now) only list.0 (words_of c.in_ok-list.list) list.1 in
    let told = reads_reported (given only (map g.R.Source.seen c.args.sources.items)) c.args.options.now
    old old (Err Memory) (inr (Memory, refl, (given list.0 [], gave), refl)) in
    rw (p.1, p.2) (record { written = told.0; begun = told.1; refused = told.2 })
