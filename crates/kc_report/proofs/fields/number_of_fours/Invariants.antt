use Rattle.std.proofs.Common.{◌*◌, take}
use Rattle.kc_report.specs.TableRows.{IsSpelled}
use Rattle.kc_report.proofs.fields.number_of_fours.Given as goal

abbrev pub invariant-loop-j : goal.invariant-loop-j
invariant-loop-j l = IsSpelled (take (l.j * 4) l.letters) l.number
