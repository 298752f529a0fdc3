use Rattle.std.proofs.Common.{inl, option_map, string_bytes}
use Rattle.kc_tool.proofs.CommandsLemmas.{done_into, task_done}
use Rattle.kc_tool.proofs.FilesLemmas.{paired}
use Rattle.kc_tool.proofs.commands.answer_into.Goals as goal

pub returns : goal.returns
returns g c =
    let answer = c.answer-work.ensures in
    let pairs = paired c.args.sources.items c.answer-work.new.files.items answer.names in
    let done = task_done pairs.0 pairs.1 answer.input c.take_sources-2.ensures answer.done in
    let output = c.in-Ok.output in
    let opened = c.in-Ok.ensures.opened in
    let closed = c.close_output.ensures in
    inl (done_into opened.0 closed.0 (string_bytes output.file.name) (option_map string_bytes output.path) opened.1 opened.2 c.in-Ok.ensures.fresh done closed.1 closed.2)
