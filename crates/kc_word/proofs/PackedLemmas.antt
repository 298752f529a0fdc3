-- Codes in packed numbers: what one more code changes, and that equal codes have equal numbers.
use Rattle.std.proofs.Common.{◌≡◌, ◌≢◌, ℕ, zero, suc, ◌+◌, ◌-◌, ◌*◌, ◌/◌, ◌%◌, ◌^◌, ◌<◌, ◌≤◌, ⊎_elim, Bool, false, List, [], length, get_or, refl, ap, sym, ◌∙◌, subst, arith}
use Rattle.std.proofs.lemmas.Bool.{cases_lt, cases_Bool}
use Rattle.std.proofs.lemmas.Bool.Decides.{same_from_decides, Decides-at, Decides-like}
use Rattle.std.proofs.lemmas.Slice.Eq.{bytes_eq-Decides}
use Rattle.std.specs.Str.{bytes_eq}
use Rattle.std.proofs.lemmas.Nat.{shl-shr, pow-add, mod-pow-add, shl_whole, pow_pos}
use Rattle.std.proofs.lemmas.List.{ext_get_or}
use Rattle.std.proofs.lemmas.List.FromFn.{length-map-range_with_len, get_or-map-range_with_len}
use Rattle.kc_word.specs.Packed.{code_at, codes_of, ArePacked}

-- ---- digits of two bits

pub digit-below : (m f t : ℕ) → m * 2 ^ (2 * (f + 1 + t)) / 2 ^ (2 * f) % 4 ≡ 0
digit-below m f t =
    let exponent : 2 * (f + 1 + t) ≡ (2 * t + 2) + 2 * f = omega arith in
    let power = pow-add 2 (2 * t + 2) (2 * f) in
    let four : 2 ^ (2 * t + 2) ≡ 2 ^ (2 * t) * 4 = pow-add 2 (2 * t) 2 in
    let whole : m * 2 ^ (2 * (f + 1 + t)) ≡ (m * 2 ^ (2 * t) * 4) * 2 ^ (2 * f) =
    ap (λ n. m * 2 ^ n) exponent ∙ ap (λ n. m * n) (power ∙ ap (λ n. n * 2 ^ (2 * f)) four) ∙ omega arith in
    ap (λ n. n / 2 ^ (2 * f) % 4) whole ∙ ap (λ n. n % 4) (shl-shr (m * 2 ^ (2 * t) * 4) (2 * f)) ∙ omega arith

-- numbers with the same digits below place m are the same up to there
pub same-digits : (v w m : ℕ) → ((f : ℕ) → f < m → v / 2 ^ (2 * f) % 4 ≡ w / 2 ^ (2 * f) % 4) → v % 2 ^ (2 * m) ≡ w % 2 ^ (2 * m)
same-digits v w zero same = omega arith
same-digits v w (suc m) same =
    let exponent : 2 * suc m ≡ 2 + 2 * m = omega arith in
    let last = same m (omega arith) in
    let rest = same-digits v w m (λ f h. same f (omega (arith, h))) in
    ap (λ n. v % 2 ^ n) exponent ∙ mod-pow-add v 2 (2 * m)
    ∙ ap (λ n. n * 2 ^ (2 * m) + v % 2 ^ (2 * m)) last ∙ ap (λ n. (w / 2 ^ (2 * m) % 4) * 2 ^ (2 * m) + n) rest
    ∙ sym (ap (λ n. w % 2 ^ n) exponent ∙ mod-pow-add w 2 (2 * m))

digits-zero : (f : ℕ) → 0 / 2 ^ (2 * f) % 4 ≡ 0
digits-zero f = let positive = pow_pos (2 * f) in omega (arith, positive)

-- ---- the codes of numbers

-- the code that has f digits below it in number j
code_at-number : (numbers : List ℕ) (j f : ℕ) → f < 32 → code_at numbers (j * 32 + (31 - f)) ≡ get_or numbers j 0 / 2 ^ (2 * f) % 4
code_at-number numbers j f h =
    let number : (j * 32 + (31 - f)) / 32 ≡ j = omega (arith, h) in
    let place : 62 - 2 * ((j * 32 + (31 - f)) % 32) ≡ 2 * f = omega (arith, h) in
    ap (λ m. get_or numbers m 0 / 2 ^ (62 - 2 * ((j * 32 + (31 - f)) % 32)) % 4) number ∙ ap (λ m. get_or numbers j 0 / 2 ^ m % 4) place

pub code_at-lt : (numbers : List ℕ) (i : ℕ) → code_at numbers i < 4
code_at-lt numbers i = omega arith

pub length-codes_of : (numbers : List ℕ) (n : ℕ) → length (codes_of numbers n) ≡ n
unfolding codes_of
length-codes_of numbers n = length-map-range_with_len (λ i. code_at numbers i) 0 n

pub get_or-codes_of : (numbers : List ℕ) (n i d : ℕ) → i < n → get_or (codes_of numbers n) i d ≡ code_at numbers i
unfolding codes_of
get_or-codes_of numbers n i d h = get_or-map-range_with_len (λ j. code_at numbers j) 0 n i i d h (omega arith)

pub codes_of-none : (numbers : List ℕ) → codes_of numbers 0 ≡ []
unfolding codes_of
codes_of-none numbers = refl

pub ArePacked-none : (numbers : List ℕ) → numbers ≡ [] → ArePacked numbers 0
ArePacked-none numbers e = record {
  exact = ap length e;
  clear = λ i h. let none : get_or numbers (i / 32) 0 ≡ 0 = ap (λ ws. get_or ws (i / 32) 0) e in
      ap (λ w. w / 2 ^ (62 - 2 * (i % 32)) % 4) none ∙ ap (λ m. 0 / 2 ^ m % 4) (place i) ∙ digits-zero (31 - i % 32);
}
  where
    place : (i : ℕ) → 62 - 2 * (i % 32) ≡ 2 * (31 - i % 32)
    place i = omega arith

-- ---- one more code

-- a code in a number of its own, and one in the last number
shifted : (c s : ℕ) → c < 4 → s ≤ 62 → c * 2 ^ s % 2 ^ 64 ≡ c * 2 ^ s
shifted c s small h = shl_whole c 2 s 64 small (omega (arith, h))

-- ---- equal codes, equal numbers

pub same-numbers : (v w : List ℕ) (n : ℕ) → ((k : ℕ) → get_or v k 0 < 2 ^ 64) → ((k : ℕ) → get_or w k 0 < 2 ^ 64) → ArePacked v n → ArePacked w n
    → codes_of v n ≡ codes_of w n → v ≡ w
same-numbers v w n small_v small_w packed_v packed_w e =
    ext_get_or 0 v w (packed_v.exact ∙ sym packed_w.exact) (λ j h.
    let same = same-digits (get_or v j 0) (get_or w j 0) 32 (λ f l.
    sym (code_at-number v j f l) ∙ same_code (j * 32 + (31 - f)) ∙ code_at-number w j f l) in
    let fits_v = small_v j in
    let fits_w = small_w j in
    omega (arith, same, fits_v, fits_w))
  where
    same_code : (i : ℕ) → code_at v i ≡ code_at w i
    same_code i =
        ⊎_elim
        (λ h. sym (get_or-codes_of v n i 0 h) ∙ ap (λ cs. get_or cs i 0) e ∙ get_or-codes_of w n i 0 h)
        (λ h. packed_v.clear i h ∙ sym (packed_w.clear i h)) (cases_lt i n)

-- whether the numbers are equal decides whether the codes are
pub same-packed : (v w : List ℕ) (n m : ℕ) (same : Bool)
    → ((k : ℕ) → get_or v k 0 < 2 ^ 64) × ((k : ℕ) → get_or w k 0 < 2 ^ 64) → ArePacked v n × ArePacked w m
    → (n ≡ m) × (same ≡ bytes_eq v w) → same ≡ bytes_eq (codes_of v n) (codes_of w m)
same-packed v w n m same small packed are =
    let long = are.0 in
    same_from_decides same (bytes_eq (codes_of v n) (codes_of w m))
    (Decides-at same (bytes_eq v w) are.1
    (Decides-like (bytes_eq v w) (λ numbers. ap (λ ws. codes_of ws n) numbers ∙ ap (codes_of w) long)
    (λ codes. same-numbers v w n small.0 small.1 packed.0 (subst (ArePacked w) (sym long) packed.1) (codes ∙ sym (ap (codes_of w) long)))
    (bytes_eq-Decides v w)))
    (bytes_eq-Decides (codes_of v n) (codes_of w m))

-- nor are codes of another length
pub other-length : (v w : List ℕ) (n m : ℕ) → n ≢ m → bytes_eq (codes_of v n) (codes_of w m) ≡ false
other-length v w n m ne =
    ⊎_elim (λ h. absurd (ne (sym (length-codes_of v n) ∙ ap length ((bytes_eq-Decides (codes_of v n) (codes_of w m)).0 h) ∙ length-codes_of w m)))
    (λ h. h) (cases_Bool (bytes_eq (codes_of v n) (codes_of w m)))
