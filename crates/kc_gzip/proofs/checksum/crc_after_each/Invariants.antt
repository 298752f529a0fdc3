use Rattle.std.proofs.Common.{◌≡◌, take}
use Rattle.kc_gzip.specs.Crc.{register_after}
use Rattle.kc_gzip.proofs.checksum.crc_after_each.Given as goal

abbrev pub invariant-loop-byte : goal.invariant-loop-byte
invariant-loop-byte l = l.current ≡ register_after l.fn.register (take l.byte-index l.bytes)
