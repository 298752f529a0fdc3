use Rattle.kc_booking.proofs.KeptVecs.{HaveSizeTo}
use Rattle.kc_booking.proofs.round.push_sizes.Given as goal

abbrev pub invariant-loop-stripe : goal.invariant-loop-stripe
invariant-loop-stripe l = HaveSizeTo l.sizes l.initial.columns.items l.columns.items l.stripe
