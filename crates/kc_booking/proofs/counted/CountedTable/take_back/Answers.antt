use Rattle.std.proofs.Common.{◌≤◌, arith, get_or}
use Rattle.kc_table.specs.Counts.{count_at}
use Rattle.kc_booking.proofs.CountedTables.{AreTakenTo-more, IsTold-reduced, KeepsLimits-then, lower-there, taken-some, total-some}
use Rattle.kc_booking.proofs.counted.CountedTable.take_back.Goals as goal

pub lower-requires-clause-there : goal.lower-requires-clause-there
lower-requires-clause-there g c =
    let so_far = c.loop-key.invariant in
    let key = get_or c.args.keys.now c.loop-key.key-index 0 in
    let some : 1 ≤ count_at (g.C.Counts.counts c.loop-key.self-inside.table) key =
    taken-some _ _ c.args.keys.now c.loop-key.key-index c.loop-key-test.true so_far.taken c.requires.there in
    lower-there _ _ _ _ key c.get.result
    (record { told = so_far.told; below = rw so_far.limits.same_bits (c.requires.in_range c.loop-key.key-index 0 c.loop-key-test.true) })
    c.get.ensures (omega (arith, some, c.get.ensures))

pub overflow_sub-self : goal.overflow_sub-self
overflow_sub-self g c =
    let so_far = c.loop-key.invariant in
    let key = get_or c.args.keys.now c.loop-key.key-index 0 in
    let some : 1 ≤ count_at (g.C.Counts.counts c.loop-key.self-inside.table) key =
    taken-some _ _ c.args.keys.now c.loop-key.key-index c.loop-key-test.true so_far.taken c.requires.there in
    total-some _ _ _ _ key c.get.result
    (record { told = so_far.told; below = rw so_far.limits.same_bits (c.requires.in_range c.loop-key.key-index 0 c.loop-key-test.true) })
    c.get.ensures (omega (arith, some, c.get.ensures))

pub loop-key-preserved : goal.loop-key-preserved
loop-key-preserved g c =
    let so_far = c.loop-key.invariant in
    let key = get_or c.args.keys.now c.loop-key.key-index 0 in
    let some : 1 ≤ count_at (g.C.Counts.counts c.loop-key.self-inside.table) key =
    taken-some _ _ c.args.keys.now c.loop-key.key-index c.loop-key-test.true so_far.taken c.requires.there in
    record {
      taken = rw c.uncount.ensures.counted (AreTakenTo-more _ _ c.args.keys.now c.loop-key.key-index c.loop-key-test.true so_far.taken some);
      told = rw (c.uncount.ensures.same_bits, c.uncount.ensures.counted, c.lower.ensures)
          (IsTold-reduced _ _ _ _ key c.get.result
          (record { told = so_far.told; below = rw so_far.limits.same_bits (c.requires.in_range c.loop-key.key-index 0 c.loop-key-test.true) })
          c.get.ensures (omega (arith, some, c.get.ensures)));
      limits = KeepsLimits-then g.C.Counts.bits g.C.Counts.may_be_full c.args.self.now.table c.loop-key.self-inside.table c.uncount.new.self so_far.limits
          (record { same_bits = c.uncount.ensures.same_bits; same_limits = c.uncount.ensures.same_limits });
    }
