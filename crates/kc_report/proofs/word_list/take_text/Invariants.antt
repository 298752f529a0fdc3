use Rattle.kc_gzip.specs.Intakes.{Filled}
use Rattle.kc_report.proofs.word_list.take_text.Given as goal

abbrev pub invariant-filling : goal.invariant-filling
invariant-filling g l = Filled (g.R.Source.seen l.fn.reader) (g.R.Source.seen l.reader) l.fn.intake l.intake

abbrev pub decreases-filling : goal.decreases-filling
decreases-filling g l = l.intake.room
