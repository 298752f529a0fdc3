use Rattle.std.proofs.Common.{◌≡◌, count_by, take}
use Rattle.kc_tally.specs.Packing.{is_apart}
use Rattle.kc_tally.proofs.part_rows.apart_count.Given as goal

abbrev pub invariant-loop-packed : goal.invariant-loop-packed
invariant-loop-packed l = l.count ≡ count_by (is_apart l.layout) (take l.packed-index l.packed)
