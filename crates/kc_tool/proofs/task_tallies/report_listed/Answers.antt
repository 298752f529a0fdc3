use Rattle.std.proofs.Common.{◌∙◌, Err, Some, ap, get_or, inr, refl, set}
use Rattle.std.proofs.lemmas.Result.{err_from_is_err_and}
use Rattle.kc_tool.specs.Reports.{ReportsCount}
use Rattle.kc_tool.specs.Tallies.{RefusesCount}
use Rattle.kc_tool.proofs.GivenLemmas.{files_both, first_read, keeps_files, listed_done, listed_left}
use Rattle.kc_tool.proofs.ReportsLemmas.{put_otherwise}
use Rattle.kc_tool.proofs.SourcesLemmas.{list_refused, sources_counted, sources_refused}
use Rattle.kc_tool.proofs.task_tallies.report_listed.Goals as goal

pub returns : goal.returns
returns g c =
    let seen = g.R.Source.seen in
    let seen_file = g.F.Source.seen in
    let settings = c.args.options.now in
    let new = c.report_given.new in
    let later = c.read_list.new.source in
    let given = c.args.sources.now in
    let file = get_or given.files.now 0 c.index-files-0.result in
    let mid = record given { files = record given.files { now = set given.files.now 0 (record { name = file.name; source = later }) } } in
    let gives = rw c.rule-rule.ensures at c.in_ok-list.ensures.list in
    let list = c.in_ok-list.list in
    let kept = c.report_given.ensures.kept in
    record {
      done = listed_done seen seen_file given mid c.index-files-0.result later c.requires.own c.requires.some refl refl refl new.sources kept
          (λ before after. ReportsCount before after settings (g.W.Sink.seen c.args.writer.now) (g.W.Sink.seen new.writer) c.report_given.result)
          (put_otherwise settings c.report_given.result
          (sources_counted (Some list.words) (Some _) (Some (seen_file later)) _ _ settings (list, gives, refl))
          (λ fault is. sources_refused (Some list.words) (Some _) (Some (seen_file later)) _ _ settings (list, gives, refl) fault) c.report_given.ensures.done);
      kept = files_both seen seen_file
          (first_read seen seen_file given mid c.index-files-0.result later c.requires.own c.requires.some refl refl refl refl)
          (keeps_files seen seen_file kept);
    }

pub returns-in_err-list : goal.returns-in_err-list
returns-in_err-list g c =
    let seen = g.R.Source.seen in
    let seen_file = g.F.Source.seen in
    let p = err_from_is_err_and c.from_residual.result c.from_residual.ensures.1 in
    let later = c.read_list.new.source in
    let given = c.args.sources.now in
    let file = get_or given.files.now 0 c.index-files-0.result in
    let mid = record given { files = record given.files { now = set given.files.now 0 (record { name = file.name; source = later }) } } in
    let fault = c.in_err-list.field-0.0 in
    let settings = c.args.options.now in
    record {
      done = inr (
        fault,
        p.1 ∙ ap Err p.2,
        listed_left seen seen_file given mid c.index-files-0.result later c.requires.own c.requires.some refl refl refl
            (λ before after. RefusesCount before after settings fault)
            (λ sources. list_refused _ (seen_file later) sources settings fault c.in_err-list.ensures.fault),
        refl,
      );
      kept = first_read seen seen_file given mid c.index-files-0.result later c.requires.own c.requires.some refl refl refl refl;
    }
