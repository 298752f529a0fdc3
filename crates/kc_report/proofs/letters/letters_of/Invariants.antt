use Rattle.kc_report.proofs.LetterLemmas.{LettersTo}
use Rattle.kc_report.proofs.letters.letters_of.Given as goal

abbrev pub invariant-loop-j : goal.invariant-loop-j
invariant-loop-j l = LettersTo l.codes l.j l.letters
