use Rattle.std.proofs.Common.{◌+◌}
use Rattle.kc_word.specs.UsableCodes.{AreGaps}
use Rattle.kc_word.proofs.usable_codes.mark_gaps.Given as goal

abbrev pub invariant-loop-i : goal.invariant-loop-i
invariant-loop-i l = AreGaps l.rule l.read (l.from + l.i) l.runs.items
