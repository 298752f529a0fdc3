use Rattle.kc_tally.proofs.TalliedRows.{IsTalliedTo}
use Rattle.kc_tally.proofs.slow_tally.tally.Given as goal

abbrev pub invariant-loop-word : goal.invariant-loop-word
invariant-loop-word l = IsTalliedTo l.rule l.reads l.word l.rows.items
