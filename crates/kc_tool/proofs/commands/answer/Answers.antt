use Rattle.kc_tool.proofs.CommandsLemmas.{done_from_files}
use Rattle.kc_tool.proofs.commands.answer.Goals as goal

pub returns-in-SelectPairs-clause-done : goal.returns-in-SelectPairs-clause-done
returns-in-SelectPairs-clause-done g c = rw c.in-SelectPairs.is (c.pair_by_table.ensures.done (g.R.Source.seen c.args.input.now))

pub returns-in-DeriveFiles-clause-done : goal.returns-in-DeriveFiles-clause-done
returns-in-DeriveFiles-clause-done g c =
    let has = rw c.in-DeriveFiles.is at c.requires.files in
    rw c.in-DeriveFiles.is (done_from_files g.F.Source.seen c.in-DeriveFiles.derived (g.R.Source.seen c.args.input.now) c.args.files.now.items
    c.derive_files.new.files.items (g.W.Sink.seen c.args.output.now) (g.W.Sink.seen c.derive_files.new.output) c.derive_files.result
    has c.derive_files.ensures.names c.derive_files.ensures.done)
