use Rattle.kc_tool.proofs.MergedReportsLemmas.{AreSettings, apart_is_together, merge_writes, merge_writes_files, merged_reports}
use Rattle.kc_tool.proofs.MergedReportsLemmas.{one_report, report_tells, reports_fit, reports_match}
use Rattle.kc_tool.proofs.report_laws.merged_reports.Goals as goal

pub returns : goal.returns
returns c =
    let settings = c.args.options.now in
    let are : AreSettings settings = record {
      some = rw (c.k.ensures, c.rule-rule.ensures) at c.get-bases.ensures.some;
      most = rw (c.k.ensures, c.rule-rule.ensures) at c.get-bases.ensures.fits;
      low = rw (c.floor-floor.ensures.value, c.rule-rule.ensures) at c.floor-floor.ensures.low;
      high = rw (c.floor-floor.ensures.value, c.rule-rule.ensures) at c.floor-floor.ensures.high;
    } in
    record {
      report = report_tells settings are;
      matched = reports_match;
      fits = reports_fit settings are;
      merged = merged_reports;
      only = one_report;
      together = apart_is_together settings are;
      command = merge_writes;
      files = merge_writes_files;
    }
