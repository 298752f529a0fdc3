use Rattle.std.proofs.Common.{◌-◌}
use Rattle.kc_gzip.proofs.TakingLemmas.{Skipping}
use Rattle.kc_gzip.proofs.unpacked_intakes.skip_by_blocks.Given as goal

abbrev pub invariant-reading : goal.invariant-reading
invariant-reading g l = Skipping (g.S.Source.seen l.fn.source) (g.S.Source.seen l.source) l.fn.unpacking l.unpacking l.limit l.skipped

abbrev pub decreases-reading : goal.decreases-reading
decreases-reading g l = l.limit - l.skipped
