use Rattle.std.proofs.Common.{◌∙◌, ap, Some, sym}
use Rattle.std.proofs.lemmas.Result.{err_from_is_err_and}
use Rattle.clap.specs.Words.{found_of, rows_of}
use Rattle.kc_command.proofs.ArgumentsLemmas.{IsPrinted, behind_dump, refused_in_counting, refused_in_dump}
use Rattle.kc_command.proofs.settings_of_options.options.Goals as goal

pub returns-in_err-options-clause-first_bad : goal.returns-in_err-options-clause-first_bad
returns-in_err-options-clause-first_bad c =
    let rows = rows_of (found_of c.args.matches.now) in
    let refused = refused_in_counting rows c.in_err-options.field-0.0 c.in_err-options.ensures.first_bad in
    let out = err_from_is_err_and c.from_residual.result c.from_residual.ensures.1 in
    rw out.1 (refused ∙ ap Some (sym out.2))

pub returns-in_err-dump-clause-first_bad : goal.returns-in_err-dump-clause-first_bad
returns-in_err-dump-clause-first_bad c =
    let rows = rows_of (found_of c.args.matches.now) in
    let is : IsPrinted rows c.in_ok-print.print = record {
      counting = c.in_ok-options.ensures.first_bad;
      print_is = c.in_ok-print.ensures;
    } in
    let refused = refused_in_dump rows c.in_ok-print.print c.in_err-dump.field-0.0 is c.in_err-dump.ensures.first_bad in
    let out = err_from_is_err_and c.from_residual-in_err-dump.result c.from_residual-in_err-dump.ensures.1 in
    rw out.1 (refused ∙ ap Some (sym out.2))

pub returns-in_err-high-clause-first_bad : goal.returns-in_err-high-clause-first_bad
returns-in_err-high-clause-first_bad c =
    let rows = rows_of (found_of c.args.matches.now) in
    let is : IsPrinted rows c.in_ok-print.print = record {
      counting = c.in_ok-options.ensures.first_bad;
      print_is = c.in_ok-print.ensures;
    } in
    let refused = behind_dump rows c.in_ok-print.print is c.in_ok-dump.ensures.first_bad
    ∙ c.in_err-high.ensures.first_bad in
    let out = err_from_is_err_and c.from_residual-in_err-high.result c.from_residual-in_err-high.ensures.1 in
    rw out.1 (refused ∙ ap Some (sym out.2))

pub returns-clause-first_bad : goal.returns-clause-first_bad
returns-clause-first_bad c =
    let rows = rows_of (found_of c.args.matches.now) in
    let is : IsPrinted rows c.in_ok-print.print = record {
      counting = c.in_ok-options.ensures.first_bad;
      print_is = c.in_ok-print.ensures;
    } in
    behind_dump rows c.in_ok-print.print is c.in_ok-dump.ensures.first_bad ∙ c.in_ok-high.ensures.first_bad
