use Rattle.std.proofs.Common.{◌≡◌, length}
use Rattle.kc_gzip.specs.Crc.{register_after}
use Rattle.kc_gzip.proofs.checksum.crc_after_bytes.Given as goal

abbrev pub invariant-loop-eight : goal.invariant-loop-eight
invariant-loop-eight l = register_after l.current l.rest ≡ register_after l.fn.register l.fn.bytes

abbrev pub decreases-loop-eight : goal.decreases-loop-eight
decreases-loop-eight l = length l.rest
