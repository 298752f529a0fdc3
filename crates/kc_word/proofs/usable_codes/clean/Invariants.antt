use Rattle.std.proofs.Common.{◌*◌, min}
use Rattle.kc_word.proofs.UsableLemmas.{AreUsableCodes}
use Rattle.kc_word.proofs.usable_codes.clean.Given as goal

abbrev pub invariant-loop-j : goal.invariant-loop-j
invariant-loop-j l = AreUsableCodes l.rule l.read (min (l.j * 32) l.count) l.bases l.runs.items
