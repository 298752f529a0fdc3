use Rattle.std.proofs.Common.{◌≡◌, take}
use Rattle.kc_booking.specs.Cuts.{cuts_in}
use Rattle.kc_stripe.specs.Locked.{with_bookings, with_entries}
use Rattle.kc_stripe.proofs.locked.Locked.book_all.Given as goal

abbrev pub invariant-loop-i : goal.invariant-loop-i
invariant-loop-i g l = record {
  share : l.share ≡ with_bookings l.initial.share (take l.i (cuts_in l.cuts));
  keeper : l.keeper ≡ with_entries l.initial.keeper (take l.i (cuts_in l.cuts));
}
