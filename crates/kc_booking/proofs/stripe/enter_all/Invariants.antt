use Rattle.std.proofs.Common.{◌+◌, ◌≤◌, ◌++◌, length, nat_eq, take}
use Rattle.std.specs.HashSet.{contains, spare}
use Rattle.kc_word.specs.Shared.{values}
use Rattle.kc_booking.specs.Stripe.{KnowsNumbers}
use Rattle.kc_booking.proofs.stripe.enter_all.Given as goal

abbrev pub invariant-loop-batch : goal.invariant-loop-batch
invariant-loop-batch l = record {
  room : length l.batch-items ≤ spare l.booked + l.batch-index;
  known : KnowsNumbers (contains nat_eq l.booked) (values l.fn.journal.items ++ take l.batch-index (values l.batch-items));
}
