use Rattle.std.proofs.Common.{◌<◌, ◌^◌, refl, arith}
use Rattle.std.specs.Int.Bits.{bit_xor}
use Rattle.std.proofs.lemmas.Nat.{xor_lt}
use Rattle.kc_gzip.proofs.CrcLemmas.{eight-sums}
use Rattle.kc_gzip.proofs.checksum.crc_after_eight.Goals as goal

pub returns : goal.returns
returns c =
    let r = c.args.register in
    let number = c.from_le_bytes.result in
    let short : r < 2 ^ 64 = omega (arith, c.ranges.register.fits) in
    let below : number < 2 ^ 64 = c.from_le_bytes.type_inv in
    eight-sums r number c.args.bytes.now c.told-bytes c.fits-bytes c.from_le_bytes.ensures (bit_xor r number) refl (xor_lt 64 r number short below) _ _ _ _ _ _ _ _
    c.crc_behind_zeros.ensures c.crc_behind_zeros-2.ensures c.crc_behind_zeros-3.ensures c.crc_behind_zeros-4.ensures c.crc_behind_zeros-5.ensures c.crc_behind_zeros-6.ensures c.crc_behind_zeros-7.ensures c.crc_behind_zeros-8.ensures
