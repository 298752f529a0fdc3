-- The matrix product is linear; what it is at 0, at a xor, at one bit, at the identity, and under a linear map of all
-- columns.
use Rattle.std.proofs.Common.{◌≡◌, ℕ, zero, suc, ◌+◌, ◌*◌, ◌/◌, ◌%◌, ◌^◌, ◌<◌, ◌≤◌, Bool, cond, eqb, List, [], ◌∷◌, ◌++◌, length, map, get_or, take, refl, sym, ◌∙◌, ap, ap₂, zero-add, add-one, mod-eq_of_lt, ⊎_elim, arith}
use Rattle.std.specs.Int.{bit_at}
use Rattle.std.specs.Prelude.{bit_xor, bit_and}
use Rattle.std.specs.List.{filter, range_with_len}
use Rattle.std.specs.Int.Bits.{xor_self, xor_zero_r, xor_zero_l, xor_assoc, xor_shifted}
use Rattle.std.proofs.lemmas.Nat.{xor_comm, xor_lt, pow_pos, mod-pow-add, mod_below}
use Rattle.std.proofs.Math.Nat.{zero-mul, one-mul}
use Rattle.std.proofs.lemmas.Bool.{cases_lt}
use Rattle.std.proofs.lemmas.Nat.Bits.{bit_at_xor, bit_at-lt, bit_at-zero, bit_at-pow_same, bit_at-pow_other, bit_at_above, shr_and_one}
use Rattle.std.proofs.lemmas.List.{map-append, length-map, get_or-map, length-take-le, get_or-take}
use Rattle.std.proofs.lemmas.List.FromFn.{length-map-range_with_len, get_or-map-range_with_len}
use Rattle.std.proofs.lemmas.List.Elements.{filter-append}
use Rattle.kc_hash.specs.Matrix.{IsMatrix}
use Rattle.kc_hash.specs.Product.{set_bits, xor_of, product, identity}

-- the xor of f i at each set bit i of x below n
abbrev pub combine : (ℕ → ℕ) → ℕ → ℕ → ℕ
combine f zero x = 0
combine f (suc n) x = bit_xor (combine f n x) (bit_at x n * f n)

range_more : (a n : ℕ) → range_with_len a (suc n) ≡ range_with_len a n ++ (a + n) ∷ []
range_more a zero = ap (λ k. k ∷ []) (omega arith)
range_more a (suc n) = ap (λ ks. a ∷ ks) (range_more (a + 1) n ∙ ap (λ k. range_with_len (a + 1) n ++ k ∷ []) (omega arith))

xor_of-append : (xs ys : List ℕ) → xor_of (xs ++ ys) ≡ bit_xor (xor_of xs) (xor_of ys)
xor_of-append [] ys = sym (xor_zero_l (xor_of ys))
xor_of-append (x ∷ xs) ys = ap (bit_xor x) (xor_of-append xs ys) ∙ sym (xor_assoc x (xor_of xs) (xor_of ys))

one_place : (f : ℕ → ℕ) (n b : ℕ) → b < 2 → xor_of (map f (cond (eqb b 1) (n ∷ []) [])) ≡ b * f n
one_place f n zero h = sym (zero-mul (f n))
one_place f n (suc zero) h = xor_zero_r (f n) ∙ sym (one-mul (f n))
one_place f n (suc (suc b)) h = absurd (omega arith)

-- `combine` is the xor over the set bits
pub xor_of-set_bits : (f : ℕ → ℕ) (n x : ℕ) → xor_of (map f (set_bits n x)) ≡ combine f n x
xor_of-set_bits f zero x = refl
xor_of-set_bits f (suc n) x =
    let chosen : ℕ → Bool = λ i. eqb (bit_at x i) 1 in
    ap (λ ks. xor_of (map f (filter chosen ks))) (range_more 0 n ∙ ap (λ k. range_with_len 0 n ++ k ∷ []) (zero-add n))
    ∙ ap (λ ks. xor_of (map f ks)) (filter-append chosen (range_with_len 0 n) (n ∷ []))
    ∙ ap xor_of (map-append f (set_bits n x) (filter chosen (n ∷ [])))
    ∙ xor_of-append (map f (set_bits n x)) (map f (filter chosen (n ∷ [])))
    ∙ ap (λ y. bit_xor y (xor_of (map f (filter chosen (n ∷ []))))) (xor_of-set_bits f n x)
    ∙ ap (bit_xor (combine f n x)) (one_place f n (bit_at x n) (bit_at-lt x n))

pub product-combine : (columns : List ℕ) (x : ℕ) → product columns x ≡ combine (λ i. get_or columns i 0) (length columns) x
unfolding product
product-combine columns x = xor_of-set_bits (λ i. get_or columns i 0) (length columns) x

-- a map of numbers that keeps 0 and xor
pub record IsLinear (g : ℕ → ℕ) : Type 0 where
  pub zero_kept : g 0 ≡ 0
  pub xor_kept : (a b : ℕ) → g (bit_xor a b) ≡ bit_xor (g a) (g b)

pub xor_medial : (a b c d : ℕ) → bit_xor (bit_xor a b) (bit_xor c d) ≡ bit_xor (bit_xor a c) (bit_xor b d)
xor_medial a b c d =
    xor_assoc a b (bit_xor c d)
    ∙ ap (bit_xor a) (sym (xor_assoc b c d) ∙ ap (λ y. bit_xor y d) (xor_comm b c) ∙ xor_assoc c b d)
    ∙ sym (xor_assoc a c (bit_xor b d))

pub two_bits : (b c y : ℕ) → b < 2 → c < 2 → (b + c) % 2 * y ≡ bit_xor (b * y) (c * y)
two_bits zero c y h k = ap (λ d. d * y) (small c k) ∙ sym (ap (λ z. bit_xor z (c * y)) (zero-mul y) ∙ xor_zero_l (c * y))
  where
    small : (d : ℕ) → d < 2 → (0 + d) % 2 ≡ d
    small d below = omega arith
two_bits (suc zero) zero y h k = sym (ap (bit_xor (1 * y)) (zero-mul y) ∙ xor_zero_r (1 * y))
two_bits (suc zero) (suc zero) y h k = zero-mul y ∙ sym (xor_self (1 * y))
two_bits (suc zero) (suc (suc c)) y h k = absurd (omega arith)
two_bits (suc (suc b)) c y h k = absurd (omega arith)

pub combine-xor : (f : ℕ → ℕ) (n x y : ℕ) → combine f n (bit_xor x y) ≡ bit_xor (combine f n x) (combine f n y)
combine-xor f zero x y = refl
combine-xor f (suc n) x y =
    ap₂ bit_xor (combine-xor f n x y)
    (ap (λ b. b * f n) (bit_at_xor x y n) ∙ two_bits (bit_at x n) (bit_at y n) (f n) (bit_at-lt x n) (bit_at-lt y n))
    ∙ xor_medial (combine f n x) (combine f n y) (bit_at x n * f n) (bit_at y n * f n)

pub combine-zero : (f : ℕ → ℕ) (n : ℕ) → combine f n 0 ≡ 0
combine-zero f zero = refl
combine-zero f (suc n) = ap₂ bit_xor (combine-zero f n) (ap (λ b. b * f n) (bit_at-zero n) ∙ zero-mul (f n))

pub bit_below : (b y w : ℕ) → b < 2 → y < 2 ^ w → b * y < 2 ^ w
bit_below zero y w h k = rw (zero-mul y) (pow_pos w)
bit_below (suc zero) y w h k = rw (one-mul y) k
bit_below (suc (suc b)) y w h k = absurd (omega arith)

pub combine-below : (f : ℕ → ℕ) (w n x : ℕ) → ((i : ℕ) → i < n → f i < 2 ^ w) → combine f n x < 2 ^ w
combine-below f w zero x within = pow_pos w
combine-below f w (suc n) x within =
    xor_lt w (combine f n x) (bit_at x n * f n) (combine-below f w n x (λ i h. within i (omega arith)))
    (bit_below (bit_at x n) (f n) w (bit_at-lt x n) (within n (omega arith)))

bit_under : (g : ℕ → ℕ) → IsLinear g → (b y : ℕ) → b < 2 → b * g y ≡ g (b * y)
bit_under g linear zero y h = zero-mul (g y) ∙ sym (ap g (zero-mul y) ∙ linear.zero_kept)
bit_under g linear (suc zero) y h = one-mul (g y) ∙ sym (ap g (one-mul y))
bit_under g linear (suc (suc b)) y h = absurd (omega arith)

pub combine-linear : (g f : ℕ → ℕ) → IsLinear g → (n x : ℕ) → combine (λ i. g (f i)) n x ≡ g (combine f n x)
combine-linear g f linear zero x = sym linear.zero_kept
combine-linear g f linear (suc n) x =
    ap₂ bit_xor (combine-linear g f linear n x) (bit_under g linear (bit_at x n) (f n) (bit_at-lt x n))
    ∙ sym (linear.xor_kept (combine f n x) (bit_at x n * f n))

pub combine-same : (f g : ℕ → ℕ) (n x : ℕ) → ((i : ℕ) → i < n → f i ≡ g i) → combine f n x ≡ combine g n x
combine-same f g zero x same = refl
combine-same f g (suc n) x same =
    ap₂ bit_xor (combine-same f g n x (λ i h. same i (omega arith))) (ap (λ y. bit_at x n * y) (same n (omega arith)))

pub combine-pow_above : (f : ℕ → ℕ) (n k : ℕ) → n ≤ k → combine f n (2 ^ k) ≡ 0
combine-pow_above f zero k h = refl
combine-pow_above f (suc n) k h =
    ap₂ bit_xor (combine-pow_above f n k (omega arith))
    (ap (λ b. b * f n) (bit_at-pow_other k n (λ e. omega arith)) ∙ zero-mul (f n))

-- at a number with one set bit
pub combine-pow : (f : ℕ → ℕ) (n k : ℕ) → k < n → combine f n (2 ^ k) ≡ f k
combine-pow f zero k h = absurd (omega arith)
combine-pow f (suc n) k h =
    ⊎_elim
    (λ (lower : k < n).
    ap₂ bit_xor (combine-pow f n k lower)
    (ap (λ b. b * f n) (bit_at-pow_other k n (λ e. omega arith)) ∙ zero-mul (f n))
    ∙ xor_zero_r (f k))
    (λ (upper : n ≤ k).
    let same : k ≡ n = omega arith in
    ap₂ bit_xor (combine-pow_above f n k upper)
    (rw same (ap (λ b. b * f n) (bit_at-pow_same n) ∙ one-mul (f n))))
    (cases_lt k n)

-- the columns with one bit each give the number back
pub combine-identity : (n x : ℕ) → combine (λ i. 2 ^ i) n x ≡ x % 2 ^ n
combine-identity zero x = omega arith
combine-identity (suc n) x =
    ap (λ y. bit_xor y (bit_at x n * 2 ^ n)) (combine-identity n x)
    ∙ xor_comm (x % 2 ^ n) (bit_at x n * 2 ^ n)
    ∙ xor_shifted (bit_at x n) n (x % 2 ^ n) (mod_below x (2 ^ n) (pow_pos n))
    ∙ sym (mod-pow-add x 1 n) ∙ ap (λ k. x % 2 ^ k) (one_more n)
  where
    one_more : (k : ℕ) → 1 + k ≡ suc k
    one_more k = omega arith

-- bits at or above the top of x add nothing
combine-low : (f : ℕ → ℕ) (n k x : ℕ) → k ≤ n → x < 2 ^ k → combine f n x ≡ combine f k x
combine-low f zero k x h below = let none : k ≡ 0 = omega arith in sym (ap (λ m. combine f m x) none)
combine-low f (suc n) k x h below =
    ⊎_elim
    (λ (lower : k < suc n).
    ap₂ bit_xor (combine-low f n k x (omega arith) below)
    (ap (λ b. b * f n) (bit_at_above x k n below (omega arith)) ∙ zero-mul (f n))
    ∙ xor_zero_r (combine f k x))
    (λ (upper : suc n ≤ k). let all : suc n ≡ k = omega arith in ap (λ m. combine f m x) all)
    (cases_lt k (suc n))

-- ---- the same of the product

pub product-zero : (columns : List ℕ) → product columns 0 ≡ 0
product-zero columns = product-combine columns 0 ∙ combine-zero (λ i. get_or columns i 0) (length columns)

pub product-xor : (columns : List ℕ) (x y : ℕ) → product columns (bit_xor x y) ≡ bit_xor (product columns x) (product columns y)
product-xor columns x y =
    product-combine columns (bit_xor x y)
    ∙ combine-xor (λ i. get_or columns i 0) (length columns) x y
    ∙ sym (ap₂ bit_xor (product-combine columns x) (product-combine columns y))

pub product-below : (columns : List ℕ) (w x : ℕ) → ((i : ℕ) → i < length columns → get_or columns i 0 < 2 ^ w) → product columns x < 2 ^ w
product-below columns w x within =
    rw (product-combine columns x) (combine-below (λ i. get_or columns i 0) w (length columns) x within)

pub product-map : (g : ℕ → ℕ) → IsLinear g → (columns : List ℕ) (x : ℕ) → product (map g columns) x ≡ g (product columns x)
product-map g linear columns x =
    product-combine (map g columns) x
    ∙ ap (λ n. combine (λ i. get_or (map g columns) i 0) n x) (length-map columns g)
    ∙ combine-same (λ i. get_or (map g columns) i 0) (λ i. g (get_or columns i 0)) (length columns) x
    (λ i h. get_or-map g columns i 0 0 h)
    ∙ combine-linear g (λ i. get_or columns i 0) linear (length columns) x
    ∙ ap g (sym (product-combine columns x))

pub product-pow : (columns : List ℕ) (k : ℕ) → k < length columns → product columns (2 ^ k) ≡ get_or columns k 0
product-pow columns k h = product-combine columns (2 ^ k) ∙ combine-pow (λ i. get_or columns i 0) (length columns) k h

pub product-pow_past : (columns : List ℕ) (k : ℕ) → length columns ≤ k → product columns (2 ^ k) ≡ 0
product-pow_past columns k h = product-combine columns (2 ^ k) ∙ combine-pow_above (λ i. get_or columns i 0) (length columns) k h

-- if the first k columns have one bit each, in order, a number of k bits comes back
pub product-units : (columns : List ℕ) (k x : ℕ) → k ≤ length columns → ((i : ℕ) → i < k → get_or columns i 0 ≡ 2 ^ i)
    → x < 2 ^ k → product columns x ≡ x
product-units columns k x h units below =
    product-combine columns x
    ∙ combine-low (λ i. get_or columns i 0) (length columns) k x h below
    ∙ combine-same (λ i. get_or columns i 0) (λ i. 2 ^ i) k x units
    ∙ combine-identity k x
    ∙ mod-eq_of_lt below

pub length-identity : (n : ℕ) → length (identity n) ≡ n
unfolding identity
length-identity n = length-map-range_with_len (λ i. 2 ^ i) 0 n

pub get_or-identity : (n i : ℕ) → i < n → get_or (identity n) i 0 ≡ 2 ^ i
unfolding identity
get_or-identity n i h = get_or-map-range_with_len (λ i. 2 ^ i) 0 n i i 0 h (omega arith)

pub product-identity : (n x : ℕ) → x < 2 ^ n → product (identity n) x ≡ x
product-identity n x below =
    product-units (identity n) n x (rw (length-identity n) (omega arith)) (get_or-identity n) below

-- the product with the first n columns of an array
pub product-take : (columns : List ℕ) (n x : ℕ) → n ≤ length columns → product (take n columns) x ≡ combine (λ i. get_or columns i 0) n x
product-take columns n x h =
    product-combine (take n columns) x
    ∙ ap (λ k. combine (λ i. get_or (take n columns) i 0) k x) (length-take-le n columns h)
    ∙ combine-same (λ i. get_or (take n columns) i 0) (λ i. get_or columns i 0) n x (λ i below. get_or-take n columns i 0 below)

-- one more bit, as a loop over the bits meets it
pub combine-taken : (f : ℕ → ℕ) (n x : ℕ) → bit_and (x / 2 ^ n) 1 ≡ 1 → combine f (n + 1) x ≡ bit_xor (combine f n x) (f n)
combine-taken f n x h =
    ap (λ k. combine f k x) (add-one n)
    ∙ ap (bit_xor (combine f n x)) (ap (λ b. b * f n) (sym (shr_and_one x n) ∙ h) ∙ one-mul (f n))

pub combine-passed : (f : ℕ → ℕ) (n x : ℕ) → (bit_and (x / 2 ^ n) 1 ≡ 1 → ⊥) → combine f (n + 1) x ≡ combine f n x
combine-passed f n x h =
    let small : bit_at x n < 2 = bit_at-lt x n in
    let other : bit_at x n ≡ 1 → ⊥ = λ e. h (shr_and_one x n ∙ e) in
    let none : bit_at x n ≡ 0 = omega arith in
    ap (λ k. combine f k x) (add-one n)
    ∙ ap (bit_xor (combine f n x)) (ap (λ b. b * f n) none ∙ zero-mul (f n))
    ∙ xor_zero_r (combine f n x)

-- the xor that a loop over the bits of an array's matrix ends with
pub product-array : (bits : ℕ) (columns seen : List ℕ) (x index : ℕ) → IsMatrix bits columns → take bits columns ≡ seen → index ≡ bits
    → combine (λ i. get_or columns i 0) index x ≡ product seen x
product-array bits columns seen x index m e end =
    let full : length columns ≡ 62 = m.full in
    let fits : bits ≤ 62 = m.width.at_most in
    ap (λ k. combine (λ i. get_or columns i 0) k x) end
    ∙ sym (product-take columns bits x (omega arith)) ∙ ap (λ l. product l x) e
