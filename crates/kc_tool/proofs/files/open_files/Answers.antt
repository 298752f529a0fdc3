use Rattle.std.proofs.Common.{rules}
use Rattle.kc_tool.proofs.FilesLemmas.{opened_more, opened_short}
use Rattle.kc_tool.proofs.files.open_files.Goals as goal

pub loop-name-preserved : goal.loop-name-preserved
loop-name-preserved g c = record {
  opens = rw c.in-Ok.ensures.items
      (opened_more c.args.names.now c.loop-name.name-index _ c.in-Some.source c.loop-name-test.true c.loop-name.invariant.opens c.in-Some.ensures.asked
      c.in-Some.ensures.named c.in-Some.ensures.fresh);
  room = search rules;
  counted = search rules;
}

pub returns-in_default-clause-fault : goal.returns-in_default-clause-fault
returns-in_default-clause-fault g c =
    opened_short c.args.names.now c.loop-name.name-index _ c.open_fault.result c.loop-name-test.true c.loop-name.invariant.opens c.in_default.ensures.asked
    c.take_sources.ensures c.open_fault.ensures
