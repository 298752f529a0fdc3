-- How a word is read from the other strand by shifts and masks: its bits are complemented and taken backwards, and the
-- two bits of each base change places.
use Rattle.std.proofs.Common.{◌≡◌, ℕ, zero, suc, ◌+◌, ◌-◌, ◌*◌, ◌/◌, ◌%◌, ◌^◌, ◌<◌, ◌≤◌, true, eqb, refl, ap, sym, ◌∙◌, subst, arith, lit<, bit_and, bit_or, eqb-true, mod-eq_of_lt}
use Rattle.std.proofs.Math.Nat.{pow-le-pow_right}
use Rattle.std.proofs.lemmas.Bool.{agree_below_at}
use Rattle.std.proofs.lemmas.Nat.{shr-shr, shr_below, and_le_r, or_lt}
use Rattle.std.proofs.lemmas.Nat.Bits.{bit_at_lowest, bit_at-suc, bit_at_and, bit_at_or, bit_at_not, bit_at-lt}
use Rattle.std.specs.Int.{bit_at, bit_not, reverse_bits, reverse_bits_onto, w64}
use Rattle.kc_kmer.specs.Word.{text, reverse_complement}
use Rattle.kc_kmer.proofs.Letters.{digit, pow-four, text-reversed}

-- ---- the bits of a number read backwards

reversed-high : (k n a i : ℕ) → bit_at (reverse_bits_onto k n a) (k + i) ≡ bit_at a i
unfolding reverse_bits_onto
reversed-high zero n a i = ap (bit_at a) (omega arith)
reversed-high (suc k) n a i =
    ap (bit_at (reverse_bits_onto k (n / 2) (a * 2 + n % 2))) index ∙ reversed-high k (n / 2) (a * 2 + n % 2) (suc i) ∙ bit_at-suc (a * 2 + n % 2) i ∙ ap (λ m. bit_at m i) half
  where
    index : suc k + i ≡ k + suc i
    index = omega arith

    half : (a * 2 + n % 2) / 2 ≡ a
    half = omega arith

reversed-low : (k n a i j : ℕ) → i + suc j ≡ k → bit_at (reverse_bits_onto k n a) i ≡ bit_at n j
unfolding reverse_bits_onto
reversed-low zero n a i j e = absurd (omega (arith, e))
reversed-low (suc k) n a i zero e =
    ap (bit_at (reverse_bits_onto k (n / 2) (a * 2 + n % 2))) index ∙ reversed-high k (n / 2) (a * 2 + n % 2) 0 ∙ bit_at_lowest (a * 2 + n % 2) ∙ even ∙ sym (bit_at_lowest n)
  where
    index : i ≡ k + 0
    index = omega (arith, e)

    even : (a * 2 + n % 2) % 2 ≡ n % 2
    even = omega arith
reversed-low (suc k) n a i (suc j) e =
    reversed-low k (n / 2) (a * 2 + n % 2) i j (omega (arith, e)) ∙ sym (bit_at-suc n j)

-- the i-th bit of the complement, read backwards
pub backwards : ℕ → ℕ
backwards n = reverse_bits w64 (bit_not w64 n)

bit_at-backwards : (n i j : ℕ) → n < 2 ^ 64 → i + suc j ≡ 64 → bit_at (backwards n) i ≡ 1 - bit_at n j
unfolding backwards
bit_at-backwards n i j h e =
    reversed-low 64 (bit_not w64 n) 0 i j e ∙ bit_at_not w64 n j h (omega (arith, e))

-- ---- a digit of base 4 is two bits

digit-bits : (n j : ℕ) → digit n j ≡ bit_at n (2 * j) + 2 * bit_at n (2 * j + 1)
digit-bits n j =
    let power = pow-four j in
    let low : n / 4 ^ j ≡ n / 2 ^ (2 * j) = ap (λ m. n / m) power in
    let high : n / 2 ^ (2 * j) / 2 ^ 1 ≡ n / 2 ^ (2 * j + 1) = shr-shr n (2 * j) 1 in
    omega (arith, low, high)

-- ---- the bits of each base are exchanged

-- the lower bit of each base
abbrev low_bits : ℕ
low_bits = 6148914691236517205

bit_at-low_bits-even : (j : ℕ) → j < 32 → bit_at low_bits (2 * j) ≡ 1
bit_at-low_bits-even j h = eqb-true _ _ (agree_below_at (λ i. eqb (bit_at low_bits (2 * i)) 1) (λ _. true) 32 j refl h)

bit_at-low_bits-odd : (j : ℕ) → j < 32 → bit_at low_bits (2 * j + 1) ≡ 0
bit_at-low_bits-odd j h = eqb-true _ _ (agree_below_at (λ i. eqb (bit_at low_bits (2 * i + 1)) 0) (λ _. true) 32 j refl h)

bit_at-double : (n i : ℕ) → bit_at (n * 2) (suc i) ≡ bit_at n i
bit_at-double n i = bit_at-suc (n * 2) i ∙ ap (λ m. bit_at m i) half
  where
    half : n * 2 / 2 ≡ n
    half = omega arith

-- the two bits of each base, exchanged
pub swapped_pairs : ℕ → ℕ
swapped_pairs n = bit_or (bit_and (n / 2) low_bits) (bit_and n low_bits * 2)

bit_at-swapped_odd : (n j : ℕ) → j < 32 → bit_at (swapped_pairs n) (2 * j + 1) ≡ bit_at n (2 * j)
unfolding swapped_pairs
bit_at-swapped_odd n j h =
    let joined = bit_at_or (bit_and (n / 2) low_bits) (bit_and n low_bits * 2) (2 * j + 1) in
    let first = bit_at_and (n / 2) low_bits (2 * j + 1) in
    let none = bit_at-low_bits-odd j h in
    let index : bit_at (bit_and n low_bits * 2) (2 * j + 1) ≡ bit_at (bit_and n low_bits * 2) (suc (2 * j)) = ap (bit_at (bit_and n low_bits * 2)) (omega arith) in
    let moved = bit_at-double (bit_and n low_bits) (2 * j) in
    let second = bit_at_and n low_bits (2 * j) in
    let one = bit_at-low_bits-even j h in
    let small = bit_at-lt n (2 * j) in
    omega (arith, joined, first, none, index, moved, second, one, small)

bit_at-swapped_even : (n j : ℕ) → j < 32 → bit_at (swapped_pairs n) (2 * j) ≡ bit_at n (2 * j + 1)
unfolding swapped_pairs
bit_at-swapped_even n j h =
    let joined = bit_at_or (bit_and (n / 2) low_bits) (bit_and n low_bits * 2) (2 * j) in
    let first = bit_at_and (n / 2) low_bits (2 * j) in
    let one = bit_at-low_bits-even j h in
    let index : bit_at n (2 * j + 1) ≡ bit_at n (suc (2 * j)) = ap (bit_at n) (omega arith) in
    let moved = bit_at-suc n (2 * j) in
    let none = moved_in n j h in
    let small = bit_at-lt n (2 * j + 1) in
    omega (arith, joined, first, one, index, moved, none, small)
  where
    moved_in : (m i : ℕ) → i < 32 → bit_at (bit_and m low_bits * 2) (2 * i) ≡ 0
    moved_in m zero l = bit_at_lowest (bit_and m low_bits * 2) ∙ omega arith
    moved_in m (suc i) l =
        let index : bit_at (bit_and m low_bits * 2) (2 * suc i) ≡ bit_at (bit_and m low_bits * 2) (suc (2 * i + 1)) = ap (bit_at (bit_and m low_bits * 2)) (omega arith) in
        let double = bit_at-double (bit_and m low_bits) (2 * i + 1) in
        let both = bit_at_and m low_bits (2 * i + 1) in
        let odd = bit_at-low_bits-odd i (omega (arith, l)) in
        omega (arith, index, double, both, odd)

-- digit j of the reverse complement is 3 minus the digit that is as far from the other end
digit-swapped : (n j i : ℕ) → n < 2 ^ 64 → j + suc i ≡ 32 → digit (swapped_pairs (backwards n)) j ≡ 3 - digit n i
digit-swapped n j i h e =
    let turned = digit-bits (swapped_pairs (backwards n)) j in
    let straight = digit-bits n i in
    let low = bit_at-swapped_even (backwards n) j (omega (arith, e)) in
    let high = bit_at-swapped_odd (backwards n) j (omega (arith, e)) in
    let from_low = bit_at-backwards n (2 * j + 1) (2 * i) h (omega (arith, e)) in
    let from_high = bit_at-backwards n (2 * j) (2 * i + 1) h (omega (arith, e)) in
    let one = bit_at-lt n (2 * i) in
    let other = bit_at-lt n (2 * i + 1) in
    omega (arith, turned, straight, low, high, from_low, from_high, one, other)

-- the turned number, moved down to its k bases, has the other strand's text
digit-moved : (m j s : ℕ) → digit (m / 2 ^ (2 * s)) j ≡ digit m (s + j)
digit-moved m j s =
    ap (λ q. m / 2 ^ (2 * s) / q % 4) (pow-four j) ∙ ap (λ q. q % 4) (shr-shr m (2 * s) (2 * j))
    ∙ ap (λ q. m / 2 ^ q % 4) (omega arith) ∙ ap (λ q. m / q % 4) (sym (pow-four (s + j)))

pub text-turned : (k n s : ℕ) → n < 4 ^ k → s + k ≡ 32 → text k (swapped_pairs (backwards n) / 2 ^ (2 * s)) ≡ reverse_complement (text k n)
text-turned k n s h e =
    text-reversed k (swapped_pairs (backwards n) / 2 ^ (2 * s)) n (λ i j f.
    digit-moved (swapped_pairs (backwards n)) j s ∙ digit-swapped n (s + j) i small (omega (arith, e, f)))
  where
    small : n < 2 ^ 64
    small =
        let most : k ≤ 32 = omega (arith, e) in
        let power : 4 ^ k ≤ 4 ^ 32 = pow-le-pow_right (lit< tt) most in
        omega (arith, h, power)

-- ---- as the code has it

swapped-as_written : (r : ℕ) → bit_or (bit_and (r / 2) low_bits) (bit_and r low_bits * 2 % 2 ^ 64) ≡ swapped_pairs r
unfolding swapped_pairs
swapped-as_written r =
    let small = and_le_r r low_bits in
    ap (bit_or (bit_and (r / 2) low_bits)) (mod-eq_of_lt (omega (arith, small)))

swapped-lt : (r : ℕ) → swapped_pairs r < 2 ^ 64
unfolding swapped_pairs
swapped-lt r =
    let first = and_le_r (r / 2) low_bits in
    let second = and_le_r r low_bits in
    or_lt 64 (bit_and (r / 2) low_bits) (bit_and r low_bits * 2) (omega (arith, first)) (omega (arith, second))

pub turned-text : (k n r g : ℕ) → n < 4 ^ k → k ≤ 31 → g ≡ k → r ≡ reverse_bits w64 (bit_not w64 n) → text k (bit_or (bit_and (r / 2) low_bits) (bit_and r low_bits * 2 % 2 ^ 64) / 2 ^ (64 - 2 * g)) ≡ reverse_complement (text k n)
unfolding backwards
turned-text k n r g h most same is =
    ap (λ m. text k (m / 2 ^ (64 - 2 * g))) (swapped-as_written r ∙ ap swapped_pairs is)
    ∙ ap (λ m. text k (swapped_pairs (backwards n) / 2 ^ m)) (omega (arith, same, most))
    ∙ text-turned k n (32 - k) h (omega (arith, most))

pub turned-lt : (k r g : ℕ) → k ≤ 31 → g ≡ k → bit_or (bit_and (r / 2) low_bits) (bit_and r low_bits * 2 % 2 ^ 64) / 2 ^ (64 - 2 * g) < 4 ^ k
turned-lt k r g most same =
    let width : 64 ≡ 2 * k + (64 - 2 * g) = omega (arith, same, most) in
    let small : swapped_pairs r < 2 ^ (2 * k + (64 - 2 * g)) = subst (λ m. swapped_pairs r < 2 ^ m) width (swapped-lt r) in
    subst (λ m. m / 2 ^ (64 - 2 * g) < 4 ^ k) (sym (swapped-as_written r))
    (subst (λ m. swapped_pairs r / 2 ^ (64 - 2 * g) < m) (sym (pow-four k)) (shr_below (swapped_pairs r) (2 * k) (64 - 2 * g) small))
