-- CRC 32: source, RFC 1952, 2.3.1 and section 8 (ISO 3309; ITU-T V.42, 8.1.1.6.2).
--
-- The bits of the message, the lowest of each byte first, are the coefficients of a polynomial over the numbers 0 and 1
-- (so + is `bit_xor`), the highest power first. The checksum is the remainder of its division by the generator. A
-- remainder has 32 coefficients; as a number, its lowest bit is the coefficient of x^31 and its highest that of x^0, so
-- multiplication by x shifts it down by one bit.
use Rattle.std.specs.Prelude.{ℕ, ◌/◌, ◌%◌, ◌-◌, ◌^◌, ◌==◌, Bool, List, fold, bit_xor, if◌then◌else◌}
use Rattle.kc_gzip.specs.Bits.{bit, byte_bits}

-- x^32 + x^26 + x^23 + x^22 + x^16 + x^12 + x^11 + x^10 + x^8 + x^7 + x^5 + x^4 + x^2 + x + 1, without x^32
abbrev pub generator : ℕ
generator = 0xEDB88320

-- r times x, minus the generator if that has an x^32
abbrev pub times_x : ℕ → ℕ
times_x r = if r % 2 == 1 then bit_xor (r / 2) generator else r / 2

-- The register is the remainder of the bits so far, times x^32. One more bit b makes it r x + b x^32, which is (r + b
-- x^31) x.
abbrev pub register_after_bit : ℕ → Bool → ℕ
register_after_bit r b = times_x (bit_xor r (bit b))

unfoldable pub register_after_byte : ℕ → ℕ → ℕ
register_after_byte r byte = fold register_after_bit r (byte_bits byte)

abbrev pub register_after : ℕ → List ℕ → ℕ
register_after r bytes = fold register_after_byte r bytes

-- The register begins as 32 ones, and its complement is sent ("pre- and post-conditioning").
abbrev pub first_register : ℕ
first_register = 2 ^ 32 - 1

abbrev pub crc : List ℕ → ℕ
crc bytes = bit_xor (register_after first_register bytes) first_register
