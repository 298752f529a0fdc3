use Rattle.std.proofs.Common.{◌≡◌, ◌<◌, ◌^◌, length, take, sum_by}
use Rattle.kc_kmer.proofs.slow_count.base_count.Given as goal

abbrev pub invariant-loop-read : goal.invariant-loop-read
invariant-loop-read l = (l.count ≡ sum_by (λ read. length read.bases) (take l.read-index l.reads)) × (l.count < 2 ^ 64)
