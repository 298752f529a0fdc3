use Rattle.std.proofs.Common.{◌≡◌, ◌<◌, ◌^◌, ◌*◌, ◌/◌, ◌%◌, ◌-◌, arith, bit_and, get_or, length, refl, rules, vec_len}
use Rattle.kc_booking.proofs.HashValues.{low-bits}
use Rattle.kc_booking.proofs.Parts.{low-below}
use Rattle.kc_booking.proofs.KeptVecs.{ArePushedTo-more, key-room}
use Rattle.kc_booking.proofs.round.push_keys.Goals as goal

pub push_reserved-requires : goal.push_reserved-requires
push_reserved-requires c =
    let long : vec_len c.index_mut.result.now ≡ length c.index_mut.result.now.items = search rules in
    let s = c.args.stripe_bits in
    let below = low-below _ s c.requires.bits in
    let room = key-room s c.args.hash_values.now c.args.keys.now.items c.loop-hash_value.keys.items c.loop-hash_value.hash_value-index _ c.index_mut.result.now
    c.loop-hash_value-test.true (low-bits _ s c.requires.bits) below (omega (arith, below, c.requires.all, c.loop-hash_value.invariant.all)) c.index_mut.ensures.value
    c.requires.room c.loop-hash_value.invariant in
    omega (arith, long, room)

pub loop-hash_value-preserved : goal.loop-hash_value-preserved
loop-hash_value-preserved c =
    let s = c.args.stripe_bits in
    let x = get_or c.args.hash_values.now c.loop-hash_value.hash_value-index 0 in
    let stripe = bit_and x (1 * 2 ^ s % 2 ^ 64 - 1) in
    let below : stripe < 2 ^ s = low-below x s c.requires.bits in
    ArePushedTo-more s c.args.hash_values.now c.args.keys.now.items c.loop-hash_value.keys.items c.loop-hash_value.hash_value-index
    (record {
      stripe = stripe;
      key = x / 2 ^ s;
      old = c.index_mut.result.now;
      new = c.push_reserved.new.self;
      within = c.loop-hash_value-test.true;
      stripe_is = low-bits x s c.requires.bits;
      fits = omega (arith, below, c.requires.all, c.loop-hash_value.invariant.all);
      key_is = refl;
      old_is = c.index_mut.ensures.value;
      new_is = c.push_reserved.ensures.items;
      room_is = c.push_reserved.ensures.capacity;
    })
    c.loop-hash_value.invariant
