use Rattle.std.proofs.Common.{inl, option_map, string_bytes}
use Rattle.kc_tool.proofs.CommandsLemmas.{done_apart}
use Rattle.kc_tool.proofs.FilesLemmas.{paired}
use Rattle.kc_tool.proofs.commands.answer_apart.Goals as goal

pub returns : goal.returns
returns g c = λ input.
    let wrote = c.write_apart-work.ensures in
    let pairs = paired c.args.sources.items c.write_apart-work.new.files.items wrote.names in
    let outputs = c.in-Ok.outputs in
    let opened = c.in-Ok.ensures.opened in
    let closed = c.close_both.ensures in
    inl (done_apart pairs.0 opened.0 closed.0 (string_bytes outputs.places.first.name) (option_map string_bytes outputs.places.first.path)
    (string_bytes outputs.places.second.name) (option_map string_bytes outputs.places.second.path) _ _ c.write_apart-work.result pairs.1 opened.1 opened.2
    c.in-Ok.ensures.first_fresh c.in-Ok.ensures.second_fresh (wrote.done input) c.take_sources-2.ensures closed.1 closed.2)
