use Rattle.std.proofs.Common.{take}
use Rattle.kc_tool.specs.ReadAhead.{TakesReads}
use Rattle.kc_tool.proofs.read_ahead.cut_all.Given as goal

abbrev pub invariant-loop-read : goal.invariant-loop-read
invariant-loop-read l = TakesReads l.rule (take l.read-index l.reads) l.fn.cutting l.cutting
