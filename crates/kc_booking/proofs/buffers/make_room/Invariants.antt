use Rattle.kc_booking.proofs.KeptVecs.{AreGrown, HaveRoomTo}
use Rattle.kc_booking.proofs.buffers.make_room.Given as goal

abbrev pub invariant-loop-place : goal.invariant-loop-place
invariant-loop-place g l = record {
  grown : AreGrown l.initial.vecs.items l.vecs.items l.more;
  room : HaveRoomTo l.initial.vecs.items l.vecs.items l.more l.place;
}
