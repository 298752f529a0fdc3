use Rattle.std.proofs.Common.{◌≡◌, ◌<◌, arith, length, rules, vec_len}
use Rattle.kc_booking.proofs.KeptVecs.{HaveSizeTo-more}
use Rattle.kc_booking.proofs.round.push_sizes.Goals as goal

pub loop-stripe-preserved : goal.loop-stripe-preserved
loop-stripe-preserved c =
    let long : vec_len c.args.columns.now ≡ length c.args.columns.now.items = search rules in
    let within : c.loop-stripe.stripe < length c.loop-stripe.columns.items = omega (arith, c.loop-stripe-test.true, c.len-stripe-end.ensures, long, c.loop-stripe.invariant.all) in
    HaveSizeTo-more c.index_mut.result.now c.push_reserved.new.self c.loop-stripe.invariant within c.index_mut.ensures.value
    c.push_reserved.ensures.items c.push_reserved.ensures.capacity
