use Rattle.kc_booking.proofs.KeptVecs.{AreClearedTo}
use Rattle.kc_booking.proofs.buffers.clear_each.Given as goal

abbrev pub invariant-loop-place : goal.invariant-loop-place
invariant-loop-place g l = AreClearedTo l.initial.vecs.items l.vecs.items l.place
