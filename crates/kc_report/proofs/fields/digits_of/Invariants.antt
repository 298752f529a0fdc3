use Rattle.kc_report.proofs.FieldLemmas.{Digits}
use Rattle.kc_report.proofs.fields.digits_of.Given as goal

abbrev pub invariant-loop-i : goal.invariant-loop-i
invariant-loop-i l = Digits l.bytes l.i l.number
