use Rattle.std.proofs.Common.{option_map, string_bytes}
use Rattle.std.proofs.lemmas.Result.{err_from_is_err_and}
use Rattle.kc_tool.proofs.OutputLemmas.{first_lacking, no_second}
use Rattle.kc_tool.proofs.outputs.open_both.Goals as goal

pub returns-in_err-open_output-clause-refused : goal.returns-in_err-open_output-clause-refused
returns-in_err-open_output-clause-refused g c =
    let p = err_from_is_err_and c.from_residual.result c.from_residual.ensures.1 in
    let refused = c.in_err-open_output.ensures.refused in
    first_lacking c.args.files.now c.args.names.now.first.now c.args.names.now.second.now c.from_residual.result p.1 p.2 refused

pub returns-in-Err-clause-refused : goal.returns-in-Err-clause-refused
returns-in-Err-clause-refused g c =
    let output = c.in_ok-open_output.field-0 in
    let parts = c.into_parts-first.ensures in
    let closed = c.close_place-first.ensures in
    no_second c.args.files.now c.args.names.now.first.now c.args.names.now.second.now (string_bytes output.file.name) (option_map string_bytes output.path) c.in-Err.fault
    c.in_ok-open_output.ensures.opened c.in-Err.ensures.refused
    (rw (parts.name, parts.sink, c.in_ok-open_output.ensures.fresh) at closed.asked)
    (rw (closed.name, parts.name, closed.path, parts.path) at c.discard.ensures)
