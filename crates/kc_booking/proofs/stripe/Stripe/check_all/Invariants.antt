use Rattle.kc_booking.proofs.RoundLemmas.{NoneBooked}
use Rattle.kc_word.specs.Shared.{values}
use Rattle.kc_booking.proofs.stripe.Stripe.check_all.Given as goal

abbrev pub invariant-loop-batch : goal.invariant-loop-batch
invariant-loop-batch g l = NoneBooked l.self.journal (values l.batch-items) l.batch-index
