use Rattle.std.proofs.Common.{◌≡◌, ◌<◌, arith, length, rules, vec_len}
use Rattle.kc_booking.proofs.KeptVecs.{AreClearedTo-more}
use Rattle.kc_booking.proofs.buffers.clear_each.Goals as goal

pub loop-place-preserved : goal.loop-place-preserved
loop-place-preserved g c =
    let long : vec_len c.args.vecs.now ≡ length c.args.vecs.now.items = search rules in
    let within : c.loop-place.place < length c.loop-place.vecs.items = omega (arith, c.loop-place-test.true, c.len-place-end.ensures, long, c.loop-place.invariant.all) in
    AreClearedTo-more c.index_mut.result.now c.clear.new.self c.loop-place.invariant within c.index_mut.ensures.value c.clear.ensures.items c.clear.ensures.capacity
