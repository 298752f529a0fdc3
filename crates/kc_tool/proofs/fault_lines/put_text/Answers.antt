use Rattle.kc_tool.proofs.FaultLinesLemmas.{second_handed}
use Rattle.kc_tool.proofs.fault_lines.put_text.Goals as goal

pub returns-clause-err : goal.returns-clause-err
returns-clause-err g c =
    second_handed _ c.args.text.now c.write_all-2.result (rw c.as_slice.ensures at c.in_ok-write_all.ensures.handed_over) c.write_all-2.ensures.handed_over
