-- The checksum by bytes: eight steps of a bit each are one look into the table.
use Rattle.std.proofs.Common.{◌≡◌, ℕ, zero, suc, ◌+◌, ◌*◌, ◌/◌, ◌%◌, ◌^◌, ◌<◌, Bool, true, false, List, [], ◌∷◌, ◌++◌, length, cond, eqb, fold, replicate, map, get_or, ◌≤◌, ◌-◌, refl, sym, ap, ◌∙◌, arith}
use Rattle.std.specs.Int.Bits.{bit_xor, xor_assoc, xor_zero_r}
use Rattle.std.proofs.lemmas.Nat.{xor_shr, xor_mod, xor_comm, xor_block}
use Rattle.std.proofs.lemmas.Grind.{pow_more}
use Rattle.std.specs.List.{range_with_len}
use Rattle.kc_gzip.specs.Bits.{bit, byte_bits, number_of, stream_of}
use Rattle.kc_gzip.specs.Crc.{generator, times_x, register_after_bit, register_after_byte, register_after}
use Rattle.std.specs.Int.{w64, from_le_bytes}
use Rattle.kc_gzip.proofs.BitLemmas.{length-stream_of}
use Rattle.kc_gzip.proofs.TableLemmas.{table_at}

-- n steps for bits that are 0
abbrev pub steps : ℕ → ℕ → ℕ
steps zero r = r
steps (suc n) r = steps n (times_x r)

-- what is added if the lowest bit is 1
abbrev back : ℕ → ℕ
back low = cond (eqb low 1) generator 0

times_x_is : (r : ℕ) → times_x r ≡ bit_xor (r / 2) (back (r % 2))
times_x_is r = picked (eqb (r % 2) 1)
  where
    picked : (b : Bool) → cond b (bit_xor (r / 2) generator) (r / 2) ≡ bit_xor (r / 2) (cond b generator 0)
    picked true = refl
    picked false = sym (xor_zero_r (r / 2))

regroup : (a b c d : ℕ) → bit_xor (bit_xor a b) (bit_xor c d) ≡ bit_xor (bit_xor a c) (bit_xor b d)
regroup a b c d =
    xor_assoc a b (bit_xor c d) ∙ ap (bit_xor a) (sym (xor_assoc b c d) ∙ ap (λ x. bit_xor x d) (xor_comm b c) ∙ xor_assoc c b d)
    ∙ sym (xor_assoc a c (bit_xor b d))

back-xor : (a b : ℕ) → a < 2 → b < 2 → back (bit_xor a b) ≡ bit_xor (back a) (back b)
back-xor zero b h k = refl
back-xor (suc zero) zero h k = refl
back-xor (suc zero) (suc zero) h k = refl
back-xor (suc zero) (suc (suc b)) h k = absurd (omega (arith, k))
back-xor (suc (suc a)) b h k = absurd (omega (arith, h))

-- it is linear
times_x-xor : (a b : ℕ) → times_x (bit_xor a b) ≡ bit_xor (times_x a) (times_x b)
times_x-xor a b =
    times_x_is (bit_xor a b)
    ∙ ap (λ x. bit_xor x (back (bit_xor a b % 2))) (xor_shr a b 1)
    ∙ ap (λ x. bit_xor (bit_xor (a / 2) (b / 2)) (back x)) (xor_mod a b 1)
    ∙ ap (bit_xor (bit_xor (a / 2) (b / 2))) (back-xor (a % 2) (b % 2) (omega arith) (omega arith))
    ∙ regroup (a / 2) (b / 2) (back (a % 2)) (back (b % 2))
    ∙ ap (λ x. bit_xor x (bit_xor (b / 2) (back (b % 2)))) (sym (times_x_is a))
    ∙ ap (bit_xor (times_x a)) (sym (times_x_is b))

steps-xor : (n a b : ℕ) → steps n (bit_xor a b) ≡ bit_xor (steps n a) (steps n b)
steps-xor zero a b = refl
steps-xor (suc n) a b = ap (steps n) (times_x-xor a b) ∙ steps-xor n (times_x a) (times_x b)

times_x-double : (a : ℕ) → times_x (2 * a) ≡ a
times_x-double a =
    let even : 2 * a % 2 ≡ 0 = omega arith in
    let half : 2 * a / 2 ≡ a = omega arith in
    times_x_is (2 * a) ∙ ap (λ x. bit_xor (2 * a / 2) (back x)) even ∙ xor_zero_r (2 * a / 2) ∙ half

steps-shift : (n a : ℕ) → steps n (a * 2 ^ n) ≡ a
steps-shift zero a = omega arith
steps-shift (suc n) a =
    let one : suc n ≡ n + 1 = omega arith in
    let twice : a * 2 ^ suc n ≡ 2 * (a * 2 ^ n) = ap (λ k. a * 2 ^ k) one ∙ ap (λ x. a * x) (pow_more 2 n) ∙ grind arith in
    ap (λ x. steps n (times_x x)) twice ∙ ap (steps n) (times_x-double (a * 2 ^ n)) ∙ steps-shift n a

bit-lt : (b : Bool) → bit b < 2
bit-lt true = omega arith
bit-lt false = omega arith

-- a bit and twice a number have no bit in common
join : (b : Bool) (m : ℕ) → bit b + 2 * m ≡ bit_xor (bit b) (2 * m)
join b m =
    let whole : bit b + 2 * m ≡ bit_xor 0 m * 2 + bit_xor (bit b) 0 = omega (arith, xor_zero_r (bit b)) in
    let first : bit b ≡ 0 * 2 + bit b = omega arith in
    let second : 2 * m ≡ m * 2 + 0 = omega arith in
    whole ∙ sym (xor_block 1 0 m (bit b) 0 (bit-lt b) (omega arith)) ∙ ap (λ x. bit_xor x (m * 2 + 0)) (sym first) ∙ ap (bit_xor (bit b)) (sym second)

-- bit by bit is all of them at once, and then as many steps
fold-steps : (r : ℕ) (bits : List Bool) → fold register_after_bit r bits ≡ steps (length bits) (bit_xor r (number_of bits))
fold-steps r [] = sym (xor_zero_r r)
fold-steps r (b ∷ bits) =
    let m = number_of bits in
    fold-steps (times_x (bit_xor r (bit b))) bits
    ∙ ap (steps (length bits))
    (ap (bit_xor (times_x (bit_xor r (bit b)))) (sym (times_x-double m))
    ∙ sym (times_x-xor (bit_xor r (bit b)) (2 * m))
    ∙ ap times_x (xor_assoc r (bit b) (2 * m) ∙ ap (bit_xor r) (sym (join b m))))

-- the number in a byte's bits is the byte
pub number_of-byte_bits : (byte : ℕ) → byte < 256 → number_of (byte_bits byte) ≡ byte
number_of-byte_bits byte h = sym (table_at (λ n. number_of (byte_bits n)) (range_with_len 0 256) 256 refl byte h) ∙ table_at (λ n. n) (range_with_len 0 256) 256 refl byte h

-- a low byte has no bit in common with the others
block-parts : (a low : ℕ) → low < 256 → bit_xor (a * 256) low ≡ a * 256 + low
block-parts a low h =
    let first : a * 256 ≡ a * 256 + 0 = omega arith in
    let second : low ≡ 0 * 256 + low = omega arith in
    ap (λ y. bit_xor y low) first ∙ ap (bit_xor (a * 256 + 0)) second ∙ xor_block 8 a 0 0 low (omega arith) h
    ∙ ap (λ y. y * 256 + low) (xor_zero_r a)

-- the entries of the table give the register after a byte
pub by_table : (r byte entry : ℕ) → byte < 256 → entry ≡ steps 8 (bit_xor r byte % 256) → bit_xor entry (r / 256) ≡ register_after_byte r byte
unfolding register_after_byte
by_table r byte entry h e =
    let x = bit_xor r byte in
    let whole : x ≡ x / 256 * 256 + x % 256 = omega arith in
    let low : x % 256 < 256 = omega arith in
    let parts : bit_xor (x / 256 * 256) (x % 256) ≡ x = block-parts (x / 256) (x % 256) low ∙ sym whole in
    let small : byte / 256 ≡ 0 = omega (arith, h) in
    let high : x / 256 ≡ r / 256 = xor_shr r byte 8 ∙ ap (bit_xor (r / 256)) small ∙ xor_zero_r (r / 256) in
    ap (λ y. bit_xor y (r / 256)) e
    ∙ xor_comm (steps 8 (x % 256)) (r / 256)
    ∙ ap (λ y. bit_xor y (steps 8 (x % 256))) (sym high ∙ sym (steps-shift 8 (x / 256)))
    ∙ sym (steps-xor 8 (x / 256 * 256) (x % 256))
    ∙ ap (steps 8) parts
    ∙ ap (λ y. steps 8 (bit_xor r y)) (sym (number_of-byte_bits byte h))
    ∙ sym (fold-steps r (byte_bits byte))

-- ---- eight bytes at once

steps-add : (m n r : ℕ) → steps (m + n) r ≡ steps n (steps m r)
steps-add zero n r =
    let none : 0 + n ≡ n = omega arith in
    ap (λ k. steps k r) none
steps-add (suc m) n r =
    let one : suc m + n ≡ suc (m + n) = omega arith in
    ap (λ k. steps k r) one ∙ steps-add m n (times_x r)

after-zero : (q : ℕ) → register_after_byte q 0 ≡ steps 8 q
unfolding register_after_byte
after-zero q = fold-steps q (byte_bits 0) ∙ ap (steps 8) (xor_zero_r q)

-- bytes of zeros are steps alone
pub after-zeros : (count r : ℕ) → register_after r (replicate count 0) ≡ steps (8 * count) r
after-zeros zero r = refl
after-zeros (suc count) r =
    let one : 8 * suc count ≡ 8 + 8 * count = omega arith in
    after-zeros count (register_after_byte r 0) ∙ ap (steps (8 * count)) (after-zero r)
    ∙ sym (steps-add 8 (8 * count) r) ∙ ap (λ k. steps k r) (sym one)

-- the low byte moves on by itself, and the others are a byte less after
split-low : (k x : ℕ) → steps (8 + k) x ≡ bit_xor (steps (8 + k) (x % 256)) (steps k (x / 256))
split-low k x =
    let whole : x ≡ x / 256 * 256 + x % 256 = omega arith in
    let low : x % 256 < 256 = omega arith in
    ap (steps (8 + k)) (whole ∙ sym (block-parts (x / 256) (x % 256) low) ∙ xor_comm (x / 256 * 256) (x % 256))
    ∙ steps-xor (8 + k) (x % 256) (x / 256 * 256)
    ∙ ap (bit_xor (steps (8 + k) (x % 256))) (steps-add 8 k (x / 256 * 256) ∙ ap (steps k) (steps-shift 8 (x / 256)))

-- so far the bytes below were added, and these are left
more-low : (sum k x : ℕ) → bit_xor sum (steps (8 + k) x) ≡ bit_xor (bit_xor sum (steps (8 + k) (x % 256))) (steps k (x / 256))
more-low sum k x = ap (bit_xor sum) (split-low k x) ∙ sym (xor_assoc sum (steps (8 + k) (x % 256)) (steps k (x / 256)))

fold-bits : (r : ℕ) (bytes : List ℕ) → register_after r bytes ≡ fold register_after_bit r (stream_of bytes)
unfolding register_after_byte
fold-bits r [] = refl
fold-bits r (byte ∷ bytes) =
    fold-bits (register_after_byte r byte) bytes ∙ sym (fold-behind r (byte_bits byte) (stream_of bytes))
  where
    fold-behind : (q : ℕ) (xs ys : List Bool) → fold register_after_bit q (xs ++ ys) ≡ fold register_after_bit (fold register_after_bit q xs) ys
    fold-behind q [] ys = refl
    fold-behind q (x ∷ xs) ys = fold-behind (register_after_bit q x) xs ys

number_of-behind : (byte : ℕ) (bits : List Bool) → byte < 256 → number_of (byte_bits byte ++ bits) ≡ byte + 256 * number_of bits
number_of-behind byte bits h = (let e : number_of (byte_bits byte) ≡ byte = number_of-byte_bits byte h in omega (arith, e))

-- the number in bytes, the lowest first
abbrev number_at_once : List ℕ → ℕ
number_at_once [] = 0
number_at_once (byte ∷ bytes) = byte + 256 * number_at_once bytes

number_of-stream : (bytes : List ℕ) → ((i : ℕ) → get_or bytes i 0 < 256) → number_of (stream_of bytes) ≡ number_at_once bytes
number_of-stream [] small = refl
number_of-stream (byte ∷ bytes) small =
    number_of-behind byte (stream_of bytes) (small 0) ∙ ap (λ n. byte + 256 * n) (number_of-stream bytes (λ i. small (suc i)))

number-of-eight : (bytes : List ℕ) → length bytes ≡ 8 → from_le_bytes w64 bytes ≡ number_at_once bytes
number-of-eight [] e = absurd (omega (arith, e))
number-of-eight (a ∷ []) e = absurd (omega (arith, e))
number-of-eight (a ∷ b ∷ []) e = absurd (omega (arith, e))
number-of-eight (a ∷ b ∷ c ∷ []) e = absurd (omega (arith, e))
number-of-eight (a ∷ b ∷ c ∷ d ∷ []) e = absurd (omega (arith, e))
number-of-eight (a ∷ b ∷ c ∷ d ∷ f ∷ []) e = absurd (omega (arith, e))
number-of-eight (a ∷ b ∷ c ∷ d ∷ f ∷ g ∷ []) e = absurd (omega (arith, e))
number-of-eight (a ∷ b ∷ c ∷ d ∷ f ∷ g ∷ h ∷ []) e = absurd (omega (arith, e))
number-of-eight (a ∷ b ∷ c ∷ d ∷ f ∷ g ∷ h ∷ i ∷ []) e =
    let sum : from_le_bytes w64 (a ∷ b ∷ c ∷ d ∷ f ∷ g ∷ h ∷ i ∷ [])
    ≡ a + b * 0x100 + c * 0x1_0000 + d * 0x100_0000 + f * 0x1_0000_0000 + g * 0x100_0000_0000 + h * 0x1_0000_0000_0000 + i * 0x100_0000_0000_0000 = refl in
    omega (arith, sum)
number-of-eight (a ∷ b ∷ c ∷ d ∷ f ∷ g ∷ h ∷ i ∷ j ∷ more) e = absurd (omega (arith, e))

-- the effect of a low byte on the register after so many bytes of zeros
abbrev pub behind : ℕ → ℕ → ℕ
behind count number = register_after (number % 256) (replicate count 0)

next-byte : (sum count x rest : ℕ) → rest ≡ x / 256
    → bit_xor sum (steps (8 * suc count) x) ≡ bit_xor (bit_xor sum (behind (suc count) x)) (steps (8 * count) rest)
next-byte sum count x rest is =
    let more : 8 * suc count ≡ 8 + 8 * count = omega arith in
    ap (λ k. bit_xor sum (steps k x)) more
    ∙ more-low sum (8 * count) x
    ∙ ap (λ k. bit_xor (bit_xor sum (steps k (x % 256))) (steps (8 * count) (x / 256))) (sym more)
    ∙ ap (λ y. bit_xor (bit_xor sum y) (steps (8 * count) (x / 256))) (sym (after-zeros (suc count) (x % 256)))
    ∙ ap (λ y. bit_xor (bit_xor sum (behind (suc count) x)) (steps (8 * count) y)) (sym is)

-- eight bytes: each moves on by those after it
pub eight-at-once : (r number : ℕ) (bytes : List ℕ) → length bytes ≡ 8 → ((i : ℕ) → get_or bytes i 0 < 256) → number ≡ from_le_bytes w64 bytes
    → (x : ℕ) → x ≡ bit_xor r number → x < 2 ^ 64
    → bit_xor (bit_xor (bit_xor (bit_xor (bit_xor (bit_xor (bit_xor (behind 8 x) (behind 7 (x / 2 ^ 8))) (behind 6 (x / 2 ^ 16))) (behind 5 (x / 2 ^ 24))) (behind 4 (x / 2 ^ 32))) (behind 3 (x / 2 ^ 40))) (behind 2 (x / 2 ^ 48))) (behind 1 (x / 2 ^ 56))
    ≡ register_after r bytes
eight-at-once r number bytes long small is x mixed below = sym (whole ∙ parts)
  where
    whole : register_after r bytes ≡ steps 64 x
    whole =
        let many : length (stream_of bytes) ≡ 64 = omega (arith, length-stream_of bytes, long) in
        fold-bits r bytes ∙ fold-steps r (stream_of bytes) ∙ ap (λ k. steps k (bit_xor r (number_of (stream_of bytes)))) many
        ∙ ap (λ n. steps 64 (bit_xor r n)) (number_of-stream bytes small ∙ sym (number-of-eight bytes long) ∙ sym is) ∙ ap (steps 64) (sym mixed)

    zero-first : (y : ℕ) → bit_xor 0 y ≡ y
    zero-first y = xor_comm 0 y ∙ xor_zero_r y

    parts : steps 64 x
        ≡ bit_xor (bit_xor (bit_xor (bit_xor (bit_xor (bit_xor (bit_xor (behind 8 x) (behind 7 (x / 2 ^ 8))) (behind 6 (x / 2 ^ 16))) (behind 5 (x / 2 ^ 24))) (behind 4 (x / 2 ^ 32))) (behind 3 (x / 2 ^ 40))) (behind 2 (x / 2 ^ 48))) (behind 1 (x / 2 ^ 56))
    parts =
        sym (zero-first (steps 64 x))
        ∙ next-byte 0 7 x (x / 2 ^ 8) (omega arith)
        ∙ ap (λ y. bit_xor y (steps 56 (x / 2 ^ 8))) (zero-first (behind 8 x))
        ∙ next-byte _ 6 (x / 2 ^ 8) (x / 2 ^ 16) (omega arith)
        ∙ next-byte _ 5 (x / 2 ^ 16) (x / 2 ^ 24) (omega arith)
        ∙ next-byte _ 4 (x / 2 ^ 24) (x / 2 ^ 32) (omega arith)
        ∙ next-byte _ 3 (x / 2 ^ 32) (x / 2 ^ 40) (omega arith)
        ∙ next-byte _ 2 (x / 2 ^ 40) (x / 2 ^ 48) (omega arith)
        ∙ next-byte _ 1 (x / 2 ^ 48) (x / 2 ^ 56) (omega arith)
        ∙ next-byte _ 0 (x / 2 ^ 56) 0 (omega (arith, below))
        ∙ xor_zero_r _

-- the same of eight numbers that are these
pub eight-sums : (r number : ℕ) (bytes : List ℕ) → length bytes ≡ 8 → ((i : ℕ) → get_or bytes i 0 < 256) → number ≡ from_le_bytes w64 bytes
    → (x : ℕ) → x ≡ bit_xor r number → x < 2 ^ 64 → (a b c d f g h i : ℕ) → a ≡ behind 8 x → b ≡ behind 7 (x / 2 ^ 8) → c ≡ behind 6 (x / 2 ^ 16) → d ≡ behind 5 (x / 2 ^ 24)
    → f ≡ behind 4 (x / 2 ^ 32) → g ≡ behind 3 (x / 2 ^ 40) → h ≡ behind 2 (x / 2 ^ 48) → i ≡ behind 1 (x / 2 ^ 56)
    → bit_xor (bit_xor (bit_xor (bit_xor (bit_xor (bit_xor (bit_xor a b) c) d) f) g) h) i ≡ register_after r bytes
eight-sums r number bytes long small is x mixed below a b c d f g h i ea eb ec ed ef eg eh ei =
    both (both (both (both (both (both (both ea eb) ec) ed) ef) eg) eh) ei ∙ eight-at-once r number bytes long small is x mixed below
  where
    both : {p q s t : ℕ} → p ≡ q → s ≡ t → bit_xor p s ≡ bit_xor q t
    both {p} {q} {s} {t} first second = ap (λ y. bit_xor y s) first ∙ ap (bit_xor q) second

-- ---- the tables

-- after so many bytes of zeros, table by table
abbrev pub tables : List ℕ
tables = map (λ n. steps (8 * (n / 256 + 1)) (n % 256)) (range_with_len 0 2048)

pub table-entry : (i : ℕ) → i < 2048 → get_or tables i 0 ≡ steps (8 * (i / 256 + 1)) (i % 256)
table-entry i h = table_at (λ n. steps (8 * (n / 256 + 1)) (n % 256)) tables 2048 refl i h

pub first-table : (i : ℕ) → i < 256 → get_or tables i 0 ≡ steps 8 i
first-table i h =
    let none : i / 256 ≡ 0 = omega (arith, h) in
    let same : i % 256 ≡ i = omega (arith, h) in
    table-entry i (omega (arith, h)) ∙ ap (λ k. steps (8 * (k + 1)) (i % 256)) none ∙ ap (steps 8) same

pub entry-behind : (count number place : ℕ) → 0 < count → count ≤ 8 → place ≡ 256 * (count - 1) + number % 256
    → get_or tables place 0 ≡ register_after (number % 256) (replicate count 0)
entry-behind count number place some few is =
    let low : number % 256 < 256 = omega arith in
    let which : place / 256 + 1 ≡ count = omega (arith, is, some, low) in
    let byte : place % 256 ≡ number % 256 = omega (arith, is, low) in
    table-entry place (omega (arith, is, few, some, low))
    ∙ ap (λ k. steps (8 * k) (place % 256)) which ∙ ap (steps (8 * count)) byte ∙ sym (after-zeros count (number % 256))
