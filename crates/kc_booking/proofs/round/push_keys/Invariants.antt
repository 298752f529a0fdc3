use Rattle.kc_booking.proofs.KeptVecs.{ArePushedTo}
use Rattle.kc_booking.proofs.round.push_keys.Given as goal

abbrev pub invariant-loop-hash_value : goal.invariant-loop-hash_value
invariant-loop-hash_value l = ArePushedTo l.stripe_bits l.hash_values l.initial.keys.items l.keys.items l.hash_value-index
