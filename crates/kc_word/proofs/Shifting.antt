-- Words of 64 bits that are shifted, joined and cut off, code by code.
use Rattle.std.proofs.Common.{◌≡◌, ℕ, zero, suc, ◌+◌, ◌-◌, ◌*◌, ◌/◌, ◌%◌, ◌^◌, ◌<◌, ◌≤◌, ⊎_elim, List, [], ◌∷◌, ◌++◌}
use Rattle.std.proofs.Common.{map, length, get_or, take, drop, refl, ap, sym, ◌∙◌, subst, arith, bit_or, ◌⊎◌}
use Rattle.std.proofs.lemmas.Bool.{cases_lt}
use Rattle.std.proofs.lemmas.Nat.{shr_high, shl-shr, shr-shr, mod-pow-add, pow_pos, or_shr, or_mod}
use Rattle.std.proofs.Math.Pow.{mod-mod-pow}
use Rattle.std.specs.Int.Bits.{or_zero_l, or_zero_r}
use Rattle.std.proofs.lemmas.List.{get_or_past, get_or_push, get_or_append_left, length_push, ext_get_or}
use Rattle.std.proofs.lemmas.List.{append_assoc, append-nil, get_or-take, get_or-drop, length-drop, length-take-le}
use Rattle.std.proofs.lemmas.List.FromFn.{map-range_with_len_more, length-map-range_with_len, get_or-map-range_with_len}
use Rattle.std.specs.List.{range_with_len}
use Rattle.kc_word.specs.Packed.{code_in, codes_in, code_at, codes_of, ArePacked}
use Rattle.kc_word.proofs.Windows.{map-range}
use Rattle.kc_word.proofs.PackedLemmas.{digit-below}

digit-up : (w e t : ℕ) → w * 2 ^ (2 * e) / 2 ^ (2 * (e + t)) % 4 ≡ w / 2 ^ (2 * t) % 4
digit-up w e t =
    let exponent : 2 * (e + t) ≡ 2 * e + 2 * t = omega arith in
    ap (λ n. w * 2 ^ (2 * e) / 2 ^ n % 4) exponent
    ∙ ap (λ n. n % 4) (sym (shr-shr (w * 2 ^ (2 * e)) (2 * e) (2 * t)))
    ∙ ap (λ n. n / 2 ^ (2 * t) % 4) (shl-shr w (2 * e))

digit-down : (w e t : ℕ) → w / 2 ^ (2 * e) / 2 ^ (2 * t) % 4 ≡ w / 2 ^ (2 * (e + t)) % 4
digit-down w e t =
    let exponent : 2 * e + 2 * t ≡ 2 * (e + t) = omega arith in
    ap (λ n. n % 4) (shr-shr w (2 * e) (2 * t)) ∙ ap (λ n. w / 2 ^ n % 4) exponent

-- a digit within 64 bits
digit-low : (w f : ℕ) → f < 32 → w % 2 ^ 64 / 2 ^ (2 * f) % 4 ≡ w / 2 ^ (2 * f) % 4
digit-low w f h =
    let width : 64 ≡ (2 * (31 - f) + 2) + 2 * f = omega (arith, h) in
    let positive = pow_pos (2 * f) in
    ap (λ n. w % 2 ^ n / 2 ^ (2 * f) % 4) width
    ∙ ap (λ n. n / 2 ^ (2 * f) % 4) (mod-pow-add w (2 * (31 - f) + 2) (2 * f))
    ∙ ap (λ n. n % 4) (shr_high (w / 2 ^ (2 * f) % 2 ^ (2 * (31 - f) + 2)) (2 * f) (w % 2 ^ (2 * f)) (omega (arith, positive)))
    ∙ mod-mod-pow (w / 2 ^ (2 * f)) (2 * (31 - f)) 2

-- a digit of two numbers joined
digit-or : (v w f : ℕ) → bit_or v w / 2 ^ (2 * f) % 4 ≡ bit_or (v / 2 ^ (2 * f) % 4) (w / 2 ^ (2 * f) % 4)
digit-or v w f = ap (λ n. n % 4) (or_shr v w (2 * f)) ∙ or_mod (v / 2 ^ (2 * f)) (w / 2 ^ (2 * f)) 2

-- ---- codes of a number

at-digit : (w i : ℕ) → i < 32 → code_in w i ≡ w / 2 ^ (2 * (31 - i)) % 4
at-digit w i h =
    let place : 62 - 2 * i ≡ 2 * (31 - i) = omega (arith, h) in
    ap (λ n. w / 2 ^ n % 4) place

-- shifted up by m codes
pub code-up : (w m i : ℕ) → m + i < 32 → code_in (w * 2 ^ (2 * m) % 2 ^ 64) i ≡ code_in w (m + i)
code-up w m i h =
    let place : 31 - i ≡ m + (31 - (m + i)) = omega (arith, h) in
    at-digit (w * 2 ^ (2 * m) % 2 ^ 64) i (omega (arith, h)) ∙ digit-low (w * 2 ^ (2 * m)) (31 - i) (omega arith)
    ∙ ap (λ f. w * 2 ^ (2 * m) / 2 ^ (2 * f) % 4) place ∙ digit-up w m (31 - (m + i)) ∙ sym (at-digit w (m + i) h)

code-up-none : (w m i : ℕ) → m ≤ 32 → i < 32 → 32 ≤ m + i → code_in (w * 2 ^ (2 * m) % 2 ^ 64) i ≡ 0
code-up-none w m i most low high =
    let place : m ≡ (31 - i) + 1 + (m + i - 32) = omega (arith, low, high) in
    at-digit (w * 2 ^ (2 * m) % 2 ^ 64) i low ∙ digit-low (w * 2 ^ (2 * m)) (31 - i) (omega arith)
    ∙ ap (λ n. w * 2 ^ (2 * n) / 2 ^ (2 * (31 - i)) % 4) place ∙ digit-below w (31 - i) (m + i - 32)

-- shifted down by n codes
pub code-down : (w n i : ℕ) → i + n < 32 → code_in (w / 2 ^ (2 * n)) (i + n) ≡ code_in w i
code-down w n i h =
    let place : n + (31 - (i + n)) ≡ 31 - i = omega (arith, h) in
    at-digit (w / 2 ^ (2 * n)) (i + n) h ∙ digit-down w n (31 - (i + n)) ∙ ap (λ f. w / 2 ^ (2 * f) % 4) place
    ∙ sym (at-digit w i (omega (arith, h)))

pub code-down-none : (w n i : ℕ) → w < 2 ^ 64 → n ≤ 32 → i < n → code_in (w / 2 ^ (2 * n)) i ≡ 0
code-down-none w n i small most h =
    let total : 2 * n + 2 * (31 - i) ≡ 64 + 2 * (n - 1 - i) = omega (arith, h, most) in
    let nothing : w / 2 ^ 64 ≡ 0 = omega (arith, small) in
    let positive = pow_pos (2 * (n - 1 - i)) in
    at-digit (w / 2 ^ (2 * n)) i (omega (arith, h, most))
    ∙ ap (λ m. m % 4) (shr-shr w (2 * n) (2 * (31 - i)) ∙ ap (λ m. w / 2 ^ m) total
    ∙ sym (shr-shr w 64 (2 * (n - 1 - i)))
    ∙ ap (λ m. m / 2 ^ (2 * (n - 1 - i))) nothing)
    ∙ omega (arith, positive)

-- two neighbouring numbers joined: codes from m on of the first, and then those of the second
pub code-joined : (v w m i : ℕ) → w < 2 ^ 64 → m < 32 → m + i < 32
    → code_in (bit_or (v * 2 ^ (2 * m) % 2 ^ 64) (w / 2 ^ (2 * (32 - m)))) i ≡ code_in v (m + i)
code-joined v w m i small most h =
    at-digit _ i (omega (arith, h)) ∙ digit-or (v * 2 ^ (2 * m) % 2 ^ 64) (w / 2 ^ (2 * (32 - m))) (31 - i)
    ∙ ap (λ n. bit_or (v * 2 ^ (2 * m) % 2 ^ 64 / 2 ^ (2 * (31 - i)) % 4) n)
    (sym (at-digit (w / 2 ^ (2 * (32 - m))) i (omega (arith, h)))
    ∙ code-down-none w (32 - m) i small (omega arith) (omega (arith, h)))
    ∙ or_zero_r (v * 2 ^ (2 * m) % 2 ^ 64 / 2 ^ (2 * (31 - i)) % 4)
    ∙ sym (at-digit (v * 2 ^ (2 * m) % 2 ^ 64) i (omega (arith, h))) ∙ code-up v m i h

pub code-joined-next : (v w m i : ℕ) → m < 32 → i < 32 → 32 ≤ m + i
    → code_in (bit_or (v * 2 ^ (2 * m) % 2 ^ 64) (w / 2 ^ (2 * (32 - m)))) i ≡ code_in w (m + i - 32)
code-joined-next v w m i most low h =
    let place : i ≡ (m + i - 32) + (32 - m) = omega (arith, most, h) in
    at-digit _ i low ∙ digit-or (v * 2 ^ (2 * m) % 2 ^ 64) (w / 2 ^ (2 * (32 - m))) (31 - i)
    ∙ ap (λ n. bit_or n (w / 2 ^ (2 * (32 - m)) / 2 ^ (2 * (31 - i)) % 4))
    (sym (at-digit (v * 2 ^ (2 * m) % 2 ^ 64) i low) ∙ code-up-none v m i (omega (arith, most)) low h)
    ∙ or_zero_l (w / 2 ^ (2 * (32 - m)) / 2 ^ (2 * (31 - i)) % 4)
    ∙ sym (at-digit (w / 2 ^ (2 * (32 - m))) i low) ∙ ap (code_in (w / 2 ^ (2 * (32 - m)))) place
    ∙ code-down w (32 - m) (m + i - 32) (omega (arith, low, most, h))

-- cut off after the first n codes

pub code-front : (w n i : ℕ) → n ≤ 32 → i < n
    → code_in (w / 2 ^ (64 - 2 * n) * 2 ^ (64 - 2 * n) % 2 ^ 64) i ≡ code_in w i
code-front w n i most h =
    let place : 64 - 2 * n ≡ 2 * (32 - n) = omega arith in
    let same : (32 - n) + i < 32 = omega (arith, h, most) in
    ap (λ e. code_in (w / 2 ^ e * 2 ^ e % 2 ^ 64) i) place ∙ code-up (w / 2 ^ (2 * (32 - n))) (32 - n) i same
    ∙ ap (code_in (w / 2 ^ (2 * (32 - n)))) (omega arith) ∙ code-down w (32 - n) i (omega (arith, h, most))

pub code-behind : (w n i : ℕ) → n ≤ 32 → i < 32 → n ≤ i
    → code_in (w / 2 ^ (64 - 2 * n) * 2 ^ (64 - 2 * n) % 2 ^ 64) i ≡ 0
code-behind w n i most low h =
    let place : 64 - 2 * n ≡ 2 * (32 - n) = omega arith in
    ap (λ e. code_in (w / 2 ^ e * 2 ^ e % 2 ^ 64) i) place
    ∙ code-up-none (w / 2 ^ (2 * (32 - n))) (32 - n) i (omega arith) low (omega (arith, h, most))

-- ---- a number after whole numbers

pub range-joined : (f g h : ℕ → ℕ) (n m : ℕ) → ((i : ℕ) → i < n → f i ≡ g i) → ((i : ℕ) → i < m → f (n + i) ≡ h i)
    → map f (range_with_len 0 (n + m)) ≡ map g (range_with_len 0 n) ++ map h (range_with_len 0 m)
range-joined f g h n zero front back =
    let none : n + 0 ≡ n = omega arith in
    ap (λ m. map f (range_with_len 0 m)) none ∙ map-range f g 0 n (λ i h. front i (omega (arith, h)))
    ∙ sym (append-nil (map g (range_with_len 0 n)))
range-joined f g h n (suc m) front back =
    let count : n + suc m ≡ n + m + 1 = omega arith in
    let last : m + 1 ≡ suc m = omega arith in
    ap (λ i. map f (range_with_len 0 i)) count ∙ map-range_with_len_more f 0 (n + m) (n + m) (omega arith)
    ∙ ap (λ xs. xs ++ f (n + m) ∷ []) (range-joined f g h n m front (λ i l. back i (omega (arith, l))))
    ∙ append_assoc (map g (range_with_len 0 n)) (map h (range_with_len 0 m)) (f (n + m) ∷ [])
    ∙ ap (λ x. map g (range_with_len 0 n) ++ (map h (range_with_len 0 m) ++ x ∷ [])) (back m (omega arith))
    ∙ ap (λ xs. map g (range_with_len 0 n) ++ xs) (sym (map-range_with_len_more h 0 m m (omega arith))
    ∙ ap (λ i. map h (range_with_len 0 i)) last)

-- the numbers, of n codes that fill them, with the first codes of one more number
pub record IsFilled (numbers next : List ℕ) (n count number : ℕ) : Type 0 where
  pub packed : ArePacked next (n + count)
  pub codes : codes_of next (n + count) ≡ codes_of numbers n ++ codes_in number count

earlier : (numbers : List ℕ) (w n i : ℕ) → ArePacked numbers n → n % 32 ≡ 0 → i < n
    → code_at (numbers ++ w ∷ []) i ≡ code_at numbers i
earlier numbers w n i packed whole h =
    let exact = packed.exact in
    ap (λ x. code_in x (i % 32)) (get_or_append_left numbers (w ∷ []) 0 (i / 32) (omega (arith, exact, whole, h)))

here : (numbers : List ℕ) (w n i : ℕ) → ArePacked numbers n → n % 32 ≡ 0 → i < 32
    → code_at (numbers ++ w ∷ []) (n + i) ≡ code_in w i
here numbers w n i packed whole h =
    let exact = packed.exact in
    let number : (n + i) / 32 ≡ length numbers = omega (arith, exact, whole, h) in
    let place : (n + i) % 32 ≡ i = omega (arith, whole, h) in
    ap (λ x. code_in x ((n + i) % 32)) (get_or_push numbers w 0 ((n + i) / 32) (sym number)) ∙ ap (code_in w) place

later : (numbers : List ℕ) (w n i : ℕ) → ArePacked numbers n → n % 32 ≡ 0 → n + 32 ≤ i → code_at (numbers ++ w ∷ []) i ≡ 0
later numbers w n i packed whole h =
    let exact = packed.exact in
    let long = length_push numbers w in
    let positive = pow_pos (62 - 2 * (i % 32)) in
    ap (λ x. code_in x (i % 32)) (get_or_past (numbers ++ w ∷ []) (i / 32) 0 (omega (arith, exact, whole, h, long)))
    ∙ omega (arith, positive)

pub filled : (numbers next : List ℕ) (n count number : ℕ) → ArePacked numbers n → (n % 32 ≡ 0) × (1 ≤ count) × (count ≤ 32)
    → next ≡ numbers ++ (number / 2 ^ (64 - 2 * count) * 2 ^ (64 - 2 * count) % 2 ^ 64) ∷ []
    → IsFilled numbers next n count number
unfolding codes_of codes_in
filled numbers next n count number packed fits e = record {
  packed = subst (λ ws. ArePacked ws (n + count)) (sym e) (record {
    exact = let exact = packed.exact in
        let long = length_push numbers front in
        let whole = fits.0 in
        let some = fits.1 in
        let most = fits.2 in
        omega (arith, exact, long, whole, some, most);
    clear = λ i h. ⊎_elim (λ l. behind i h l) (λ l. later numbers front n i packed fits.0 l) (cases_lt i (n + 32));
  });
  codes = ap (λ ws. codes_of ws (n + count)) e
      ∙ range-joined (λ i. code_at (numbers ++ front ∷ []) i) (λ i. code_at numbers i) (λ i. code_in number i) n count
      (λ i h. earlier numbers front n i packed fits.0 h)
      (λ i h. here numbers front n i packed fits.0 (let most = fits.2 in omega (arith, h, most))
      ∙ code-front number count i fits.2 h);
}
  where
    front : ℕ
    front = number / 2 ^ (64 - 2 * count) * 2 ^ (64 - 2 * count) % 2 ^ 64

    behind : (i : ℕ) → n + count ≤ i → i < n + 32 → code_at (numbers ++ front ∷ []) i ≡ 0
    behind i h l =
        let place : i ≡ n + (i - n) = omega (arith, h) in
        ap (code_at (numbers ++ front ∷ [])) place ∙ here numbers front n (i - n) packed fits.0 (omega (arith, l))
        ∙ code-behind number count (i - n) fits.2 (omega (arith, l)) (omega (arith, h))

-- ---- a window

pub record IsWindow (numbers : List ℕ) (n at number : ℕ) : Type 0 where
  pub codes : (i : ℕ) → i < 32 → at + i < n → code_in number i ≡ code_at numbers (at + i)

pub window-of-one : (numbers : List ℕ) (n at v : ℕ) → v ≡ get_or numbers (at / 32) 0 → ArePacked numbers n
    → ((at % 32 ≡ 0) ⊎ (at / 32 + 1 ≡ length numbers))
    → IsWindow numbers n at (v * 2 ^ (2 * (at % 32)) % 2 ^ 64)
window-of-one numbers n at v is packed alone = record {
  codes = λ i h l. let inside : at % 32 + i < 32 = ⊎_elim (λ e. omega (arith, e, h)) (λ e. let exact = packed.exact in omega (arith, e, exact, l)) alone in
      let number : (at + i) / 32 ≡ at / 32 = omega (arith, inside) in
      let place : (at + i) % 32 ≡ at % 32 + i = omega (arith, inside) in
      code-up v (at % 32) i inside ∙ ap (λ x. code_in x (at % 32 + i)) is
      ∙ sym (ap (λ j. code_in (get_or numbers j 0) ((at + i) % 32)) number ∙ ap (code_in (get_or numbers (at / 32) 0)) place);
}

pub window-of-two : (numbers : List ℕ) (n at v w : ℕ) → v ≡ get_or numbers (at / 32) 0
    → w ≡ get_or numbers (at / 32 + 1) 0 → w < 2 ^ 64
    → IsWindow numbers n at (bit_or (v * 2 ^ (2 * (at % 32)) % 2 ^ 64) (w / 2 ^ (2 * (32 - at % 32))))
window-of-two numbers n at v w is other small = record {
  codes = λ i h l. ⊎_elim (same i) (next i h) (cases_lt (at % 32 + i) 32);
}
  where
    same : (i : ℕ) → at % 32 + i < 32
        → code_in (bit_or (v * 2 ^ (2 * (at % 32)) % 2 ^ 64) (w / 2 ^ (2 * (32 - at % 32)))) i ≡ code_at numbers (at + i)
    same i inside =
        let number : (at + i) / 32 ≡ at / 32 = omega (arith, inside) in
        let place : (at + i) % 32 ≡ at % 32 + i = omega (arith, inside) in
        code-joined v w (at % 32) i small (omega arith) inside ∙ ap (λ x. code_in x (at % 32 + i)) is
        ∙ sym (ap (λ j. code_in (get_or numbers j 0) ((at + i) % 32)) number
        ∙ ap (code_in (get_or numbers (at / 32) 0)) place)

    next : (i : ℕ) → i < 32 → 32 ≤ at % 32 + i
        → code_in (bit_or (v * 2 ^ (2 * (at % 32)) % 2 ^ 64) (w / 2 ^ (2 * (32 - at % 32)))) i ≡ code_at numbers (at + i)
    next i h beyond =
        let number : (at + i) / 32 ≡ at / 32 + 1 = omega (arith, h, beyond) in
        let place : (at + i) % 32 ≡ at % 32 + i - 32 = omega (arith, h, beyond) in
        code-joined-next v w (at % 32) i (omega arith) h beyond ∙ ap (λ x. code_in x (at % 32 + i - 32)) other
        ∙ sym (ap (λ j. code_in (get_or numbers j 0) ((at + i) % 32)) number
        ∙ ap (code_in (get_or numbers (at / 32 + 1) 0)) place)

-- ---- a part, window by window

-- the codes that a part has once so many are taken
pub record IsPart (codes part : List ℕ) (from taken : ℕ) : Type 0 where
  pub is : part ≡ map (λ i. get_or codes (from + i) 0) (range_with_len 0 taken)

pub length-part : (codes part : List ℕ) (from taken : ℕ) → IsPart codes part from taken → length part ≡ taken
length-part codes part from taken before = ap length before.is
    ∙ length-map-range_with_len (λ i. get_or codes (from + i) 0) 0 taken

pub part-more : {codes part : List ℕ} {from taken : ℕ} → IsPart codes part from taken
    → (next : List ℕ) (count number : ℕ) → next ≡ part ++ codes_in number count
    → (count ≤ 32) × (from + taken + count ≤ length codes)
    → ((i : ℕ) → i < 32 → from + taken + i < length codes → code_in number i ≡ get_or codes (from + taken + i) 0)
    → IsPart codes next from (taken + count)
unfolding codes_in
part-more {codes = codes} {from = from} {taken = taken} before next count number e fits window = record {
  is = e ∙ ap (λ xs. xs ++ codes_in number count) before.is
      ∙ sym (range-joined (λ i. get_or codes (from + i) 0) (λ i. get_or codes (from + i) 0) (λ i. code_in number i) taken count
      (λ i h. refl) (λ i h. let most = fits.0 in
      let within = fits.1 in
      let place : from + (taken + i) ≡ from + taken + i = omega arith in
      ap (λ j. get_or codes j 0) place ∙ sym (window i (omega (arith, h, most)) (omega (arith, h, within)))));
}

pub part-all : (codes part : List ℕ) (from taken : ℕ) → from + taken ≤ length codes → IsPart codes part from taken
    → part ≡ take taken (drop from codes)
part-all codes part from taken within before =
    before.is
    ∙ ext_get_or 0 _ _ (length-map-range_with_len (λ i. get_or codes (from + i) 0) 0 taken
    ∙ sym (length-take-le taken (drop from codes) (let long = length-drop from codes in omega (arith, long, within))))
    (λ i h. let count = length-map-range_with_len (λ i. get_or codes (from + i) 0) 0 taken in
    let below : i < taken = omega (arith, h, count) in
    get_or-map-range_with_len (λ i. get_or codes (from + i) 0) 0 taken i i 0 below (omega arith)
    ∙ sym (get_or-take taken (drop from codes) i 0 below ∙ get_or-drop from codes i 0))
