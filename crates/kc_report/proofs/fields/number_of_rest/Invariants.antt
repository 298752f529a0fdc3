use Rattle.std.proofs.Common.{take}
use Rattle.kc_report.specs.TableRows.{IsSpelled}
use Rattle.kc_report.proofs.fields.number_of_rest.Given as goal

abbrev pub invariant-loop-i : goal.invariant-loop-i
invariant-loop-i l = IsSpelled (take l.i l.letters) l.number
