use Rattle.std.proofs.Common.{◌∙◌, ap, arith, get_or, sym}
use Rattle.kc_table.specs.Counts.{KeyCounts, added}
use Rattle.kc_booking.proofs.CountedTables.{IsTold-added, KeepsLimits-then, all_added-more, count_at-at_most, raise-fits}
use Rattle.kc_booking.proofs.counted.CountedTable.count_front.Goals as goal

pub count-requires-clause-room : goal.count-requires-clause-room
count-requires-clause-room g c =
    let so_far = c.loop-i.invariant in
    let most = count_at-at_most _ _ _ _ (get_or c.args.keys.now c.loop-i.i 0) so_far.told.counted
    (rw so_far.limits.same_bits (c.requires.in_range c.loop-i.i 0 c.loop-i-test.true)) in
    omega (arith, most, so_far.total, c.requires.room, c.loop-i-test.true)

pub raise-requires-clause-fits : goal.raise-requires-clause-fits
raise-requires-clause-fits g c =
    let so_far = c.loop-i.invariant in
    raise-fits _ _ _ _ (get_or c.args.keys.now c.loop-i.i 0) c.in-Ok.count
    (record { told = so_far.told; below = rw so_far.limits.same_bits (c.requires.in_range c.loop-i.i 0 c.loop-i-test.true) })
    (omega (arith, c.in-Ok.ensures.new_count))

pub loop-i-preserved : goal.loop-i-preserved
loop-i-preserved g c =
    let so_far = c.loop-i.invariant in
    let key = get_or c.args.keys.now c.loop-i.i 0 in
    record {
      counts = c.in-Ok.ensures.counted ∙ ap (λ (m : KeyCounts). added m key) so_far.counts
          ∙ sym (all_added-more (g.C.Counts.counts c.args.self.now.table) c.args.keys.now c.loop-i.i 0 c.loop-i-test.true);
      told = rw (c.count.ensures.same_bits, c.in-Ok.ensures.counted, c.raise.ensures)
          (IsTold-added _ _ _ _ key c.in-Ok.count
          (record { told = so_far.told; below = rw so_far.limits.same_bits (c.requires.in_range c.loop-i.i 0 c.loop-i-test.true) })
          c.in-Ok.ensures.new_count (omega (arith, so_far.total, c.requires.room, c.loop-i-test.true)));
      total = omega (arith, so_far.total);
      limits = KeepsLimits-then g.C.Counts.bits g.C.Counts.may_be_full c.args.self.now.table c.loop-i.self-inside.table c.count.new.self so_far.limits
          (record { same_bits = c.count.ensures.same_bits; same_limits = c.count.ensures.same_limits });
    }
