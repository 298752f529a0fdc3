use Rattle.std.proofs.Common.{◌+◌, ◌∙◌, ap, arith, length}
use Rattle.std.proofs.lemmas.List.{length_push}
use Rattle.kc_booking.specs.AtLeast.{difference_at}
use Rattle.kc_booking.proofs.AtLeastLemmas.{bins_from-all, sizes-more}
use Rattle.kc_booking.proofs.at_least.AtLeast.histogram.Goals as goal

pub loop-i-preserved : goal.loop-i-preserved
loop-i-preserved c = record {
  room = omega (arith, c.loop-i.invariant.room, c.push_reserved.ensures.capacity);
  long = omega (arith, ap length c.push_reserved.ensures.items, length_push c.loop-i.sizes.items c.bin.result, c.loop-i.invariant.long);
  each = sizes-more (λ k. difference_at c.args.self.now (k + 1)) c.loop-i.sizes.items c.push_reserved.new.self.items c.loop-i.i c.bin.result
      c.push_reserved.ensures.items c.loop-i.invariant.long c.bin.ensures c.loop-i.invariant.each;
}

pub returns : goal.returns
returns c =
    c.of_sizes.ensures
    ∙ bins_from-all c.args.self.now c.loop-i.sizes.items (omega (arith, c.loop-i.invariant.long, c.loop-i-test.false, c.loop-i.auto.i-end))
    (λ i within. c.loop-i.invariant.each i (omega (arith, within, c.loop-i-test.false)))
