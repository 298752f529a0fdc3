use Rattle.std.proofs.Common.{ap, inl, map, refl, ◌++◌, ◌∙◌}
use Rattle.std.specs.Prelude.{string_bytes}
use Rattle.std.proofs.lemmas.Result.{err_from_is_err_and}
use Rattle.kc_gzip.specs.declared.unpacked_intakes.TakeFault.TheVariants as taking
use Rattle.kc_gzip.proofs.IntakesLemmas.{taken_in_vain, taken_none}
use Rattle.kc_report.specs.WordList.{words_in}
use Rattle.kc_report.specs.declared.report_faults.ReportFault.TheVariants as report
use Rattle.kc_tool.specs.Commands.{most_table_bytes}
use Rattle.kc_tool.proofs.task_tallies.all_words.Goals as goal

pub returns-in_err-all-clause-fault : goal.returns-in_err-all-clause-fault
returns-in_err-all-clause-fault g c =
    let p = err_from_is_err_and c.from_residual.result c.from_residual.ensures.1 in
    let none = taken_none (g.R.Source.seen c.args.list.now) most_table_bytes in
    rw (p.1, p.2) (report.Memory, inl (taking.Memory, taken_in_vain none, refl), refl)

pub returns-in-Ok-clause-all : goal.returns-in-Ok-clause-all
returns-in-Ok-clause-all g c =
    let (text, taken, are) = c.in-Ok.ensures.words in
    let copied = c.in_ok-all.ensures ∙ ap (map string_bytes) c.deref.ensures.value in
    (text, taken, are ∙ ap (λ words. words ++ words_in text) copied)

pub returns-in-Err-clause-fault : goal.returns-in-Err-clause-fault
returns-in-Err-clause-fault g c = (c.in-Err.why, c.in-Err.ensures.fault, c.table_fault.ensures)
