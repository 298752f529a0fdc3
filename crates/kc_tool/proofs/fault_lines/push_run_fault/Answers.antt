use Rattle.std.proofs.Common.{append_assoc}
use Rattle.kc_tool.proofs.fault_lines.push_run_fault.Goals as goal

pub returns-in-Foreign-clause-pushed : goal.returns-in-Foreign-clause-pushed
returns-in-Foreign-clause-pushed c = rw (c.in-Foreign.is, c.push_numbered.ensures.pushed, c.from.ensures)

pub returns-in-NoThread-clause-pushed : goal.returns-in-NoThread-clause-pushed
returns-in-NoThread-clause-pushed c =
    rw (c.in-NoThread.is, c.push_numbered-in-NoThread.ensures.pushed, c.from-in-NoThread.ensures)

pub returns-in-Full-clause-pushed : goal.returns-in-Full-clause-pushed
returns-in-Full-clause-pushed c =
    rw (c.in-Full.is, c.push-in-Full.ensures.pushed, c.push_numbered-in-Full.ensures.pushed, c.from-in-Full.ensures, append_assoc)
