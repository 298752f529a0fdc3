use Rattle.std.proofs.Common.{◌≡◌, arith, length, rules, vec_len, Result, Ok, Err, OnOk, IsErr}
use Rattle.kc_booking.proofs.KeptVecs.{GrowStep, AreGrown-more, HaveRoomTo-more}
use Rattle.kc_booking.proofs.buffers.make_room.Goals as goal

on_ok : {T E : Type 0} (P : Type 0) (r : Result T E) → IsErr r → OnOk r P
on_ok P (Ok x) p = absurd (cc)
on_ok P (Err e) p = tt

pub returns-in_err-make_room_for : goal.returns-in_err-make_room_for
returns-in_err-make_room_for g c =
    let long : vec_len c.args.vecs.now ≡ length c.args.vecs.now.items = search rules in
    let step : GrowStep c.loop-place.vecs.items c.args.more.now c.loop-place.place = record {
      vec = c.index_mut.result.now;
      new = c.make_room_for.new.vec;
      within = omega (arith, c.loop-place-test.true, c.len-place-end.ensures, long, c.loop-place.invariant.grown.all);
      is = c.index_mut.ensures.value;
      same = c.make_room_for.ensures.unchanged;
      bounded = c.make_room_for.ensures.bounded;
    } in
    let grown = AreGrown-more step c.loop-place.invariant.grown in
    record { all = grown.all; unchanged = grown.same; room = on_ok _ c.from_residual.result c.from_residual.ensures.0; bounded = grown.bounded }

pub loop-place-preserved : goal.loop-place-preserved
loop-place-preserved g c =
    let long : vec_len c.args.vecs.now ≡ length c.args.vecs.now.items = search rules in
    let step : GrowStep c.loop-place.vecs.items c.args.more.now c.loop-place.place = record {
      vec = c.index_mut.result.now;
      new = c.make_room_for.new.vec;
      within = omega (arith, c.loop-place-test.true, c.len-place-end.ensures, long, c.loop-place.invariant.grown.all);
      is = c.index_mut.ensures.value;
      same = c.make_room_for.ensures.unchanged;
      bounded = c.make_room_for.ensures.bounded;
    } in
    record {
      grown = AreGrown-more step c.loop-place.invariant.grown;
      room = HaveRoomTo-more step c.loop-place.invariant.grown c.in_ok-make_room_for.ensures.room c.loop-place.invariant.room;
    }
