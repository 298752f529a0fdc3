use Rattle.std.proofs.Common.{length}
use Rattle.kc_tool.proofs.read_ahead.ReadBuffer.clear.Given as goal

abbrev pub decreases-loop-read : goal.decreases-loop-read
decreases-loop-read l = length l.self.reads.items
