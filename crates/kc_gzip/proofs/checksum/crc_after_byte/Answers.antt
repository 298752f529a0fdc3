use Rattle.std.proofs.Common.{◌%◌, ◌<◌, get_or, ap, ◌∙◌, arith}
use Rattle.std.specs.Int.Bits.{bit_xor}
use Rattle.std.proofs.lemmas.Nat.{and_mask}
use Rattle.kc_gzip.proofs.CrcLemmas.{by_table, tables, first-table}
use Rattle.kc_gzip.proofs.checksum.crc_after_byte.Goals as goal

pub returns : goal.returns
returns c =
    let x = bit_xor c.args.register c.args.byte in
    let low : x % 256 < 256 = omega arith in
    by_table c.args.register c.args.byte _ c.ranges.byte.fits (ap (λ i. get_or tables i 0) (and_mask x 8) ∙ first-table (x % 256) low)
