use Rattle.std.proofs.Common.{◌≡◌, length, map}
use Rattle.std.specs.List.{range_with_len}
use Rattle.kc_booking.specs.Cut.{cut_at}
use Rattle.kc_booking.proofs.cut.cut_up.Given as goal

abbrev pub invariant-loop-keys : goal.invariant-loop-keys
invariant-loop-keys l = l.cuts.items ≡ map (cut_at l.setup l.batch.value) (range_with_len 0 (length l.yielded))
