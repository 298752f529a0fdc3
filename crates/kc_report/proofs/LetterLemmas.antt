-- The letters of a word, four at a time.
use Rattle.std.proofs.Common.{◌≡◌, ℕ, zero, suc, ◌+◌, ◌-◌, ◌*◌, ◌/◌, ◌%◌, ◌^◌, ◌<◌, ◌≤◌, List, [], ◌∷◌, ◌++◌, length, take, drop}
use Rattle.std.proofs.Common.{refl, sym, ◌∙◌, ap, subst, append_assoc, arith, lit<, bit_and, pow-suc, mul_comm}
use Rattle.std.specs.Int.{w32, to_le_bytes}
use Rattle.std.proofs.Math.Nat.{div-div-eq-div-mul, mod-eq_of_lt, mul-lt-mul_of_pos_right, mul-div_cancel}
use Rattle.std.proofs.lemmas.List.{take_all, take-append-le, length-append, length-drop, length-take-le}
use Rattle.std.proofs.lemmas.Slice.{take-put_mid}
use borrow.Rule.Slice.PartMut.{put_mid}
use Rattle.std.proofs.lemmas.Nat.{pow-add, pow_pos, and_mask}
use Rattle.kc_kmer.specs.Letter.{base}
use Rattle.kc_kmer.specs.Word.{text}
use Rattle.kc_kmer.proofs.Letters.{pow-four}
use Rattle.kc_kmer.proofs.WordLemmas.{below_four, length-text}
use Rattle.kc_report.specs.TableRows.{four_letters}

pub letter-small : (n : ℕ) → n < 4 → base n < 256
unfolding base
letter-small = below_four (λ n. base n < 256) (lit< tt) (lit< tt) (lit< tt) (lit< tt)

-- the letters of four bases with these codes
abbrev pub four_bases : ℕ → List ℕ
four_bases codes = base (codes / 64 % 4) ∷ base (codes / 16 % 4) ∷ base (codes / 4 % 4) ∷ base (codes % 4) ∷ []

same_four : {a b c d e f g h : ℕ} → a ≡ e → b ≡ f → c ≡ g → d ≡ h → a ∷ b ∷ c ∷ d ∷ [] ≡ e ∷ f ∷ g ∷ h ∷ []
same_four {a} {b} {c} {d} {e} {f} {g} {h} ae bf cg dh =
    ap (λ x. x ∷ b ∷ c ∷ d ∷ []) ae ∙ ap (λ x. e ∷ x ∷ c ∷ d ∷ []) bf ∙ ap (λ x. e ∷ f ∷ x ∷ d ∷ []) cg
    ∙ ap (λ x. e ∷ f ∷ g ∷ x ∷ []) dh

-- they are the bytes of their number
pub bytes-four : (codes : ℕ) → to_le_bytes w32 (four_letters codes) ≡ four_bases codes
bytes-four codes =
    let ia = letter-small (codes / 64 % 4) (omega arith) in
    let ib = letter-small (codes / 16 % 4) (omega arith) in
    let ic = letter-small (codes / 4 % 4) (omega arith) in
    let id = letter-small (codes % 4) (omega arith) in
    same_four (omega (arith, ia, ib, ic, id)) (omega (arith, ia, ib, ic, id)) (omega (arith, ia, ib, ic, id))
    (omega (arith, ia, ib, ic, id))

-- one byte after another
pushed_four : (front : List ℕ) (a b c d : ℕ)
    → (((front ++ a ∷ []) ++ b ∷ []) ++ c ∷ []) ++ d ∷ [] ≡ front ++ a ∷ b ∷ c ∷ d ∷ []
pushed_four front a b c d =
    append_assoc ((front ++ a ∷ []) ++ b ∷ []) (c ∷ []) (d ∷ [])
    ∙ append_assoc (front ++ a ∷ []) (b ∷ []) (c ∷ d ∷ [])
    ∙ append_assoc front (a ∷ []) (b ∷ c ∷ d ∷ [])

-- four letters more
pub text-four : (k n : ℕ) → text (suc (suc (suc (suc k)))) n ≡ text k (n / 256) ++ four_bases (n % 256)
unfolding text
text-four k n =
    let front : n / 4 / 4 / 4 / 4 ≡ n / 256 = omega arith in
    let a : n / 4 / 4 / 4 % 4 ≡ n % 256 / 64 % 4 = omega arith in
    let b : n / 4 / 4 % 4 ≡ n % 256 / 16 % 4 = omega arith in
    let c : n / 4 % 4 ≡ n % 256 / 4 % 4 = omega arith in
    let d : n % 4 ≡ n % 256 % 4 = omega arith in
    pushed_four (text k (n / 4 / 4 / 4 / 4)) (base (n / 4 / 4 / 4 % 4)) (base (n / 4 / 4 % 4)) (base (n / 4 % 4)) (base (n % 4))
    ∙ ap (λ m. text k m ++ base (n / 4 / 4 / 4 % 4) ∷ base (n / 4 / 4 % 4) ∷ base (n / 4 % 4) ∷ base (n % 4) ∷ []) front
    ∙ ap (λ xs. text k (n / 256) ++ xs) (same_four (ap base a) (ap base b) (ap base c) (ap base d))

-- the first letters of a text are the text of the number without the last digits
pub take-text : (m k n l : ℕ) → l ≡ k + m → take k (text l n) ≡ text k (n / 4 ^ m)
unfolding text
take-text zero k n l e =
    let long = length-text k n in
    let same : l ≡ k = omega (arith, e) in
    let whole : n ≡ n / 4 ^ 0 = omega arith in
    ap (λ l. take k (text l n)) same ∙ take_all k (text k n) (omega (arith, long)) ∙ ap (text k) whole
take-text (suc m) k n zero e = absurd (omega (arith, e))
take-text (suc m) k n (suc l) e =
    let long = length-text l (n / 4) in
    take-append-le k (text l (n / 4)) (base (n % 4) ∷ []) (omega (arith, long, e))
    ∙ take-text m k (n / 4) l (omega (arith, e))
    ∙ ap (text k) (div-div-eq-div-mul n 4 (4 ^ m) ∙ ap (λ p. n / p) (mul_comm 4 (4 ^ m) ∙ sym (pow-suc 4 m)))

-- what a loop that writes four letters at a time knows
pub record LettersTo (codes j : ℕ) (letters : List ℕ) : Type 0 where
  pub long : length letters ≡ 32
  pub written : take (4 * j) letters ≡ text (4 * j) (codes / 2 ^ (64 - 8 * j))

pub letters-none : (codes : ℕ) (letters : List ℕ) → length letters ≡ 32 → LettersTo codes 0 letters
unfolding text
letters-none codes letters long = record { long = long; written = refl }

pub letters-more : (codes j four : ℕ) (letters bytes : List ℕ) → j < 8
    → four ≡ four_letters (bit_and (codes / 2 ^ (56 - 8 * j)) 255) → bytes ≡ to_le_bytes w32 four
    → LettersTo codes j letters
    → LettersTo codes (j + 1) (put_mid (4 * j) (4 * j + 4 - 4 * j) letters bytes)
letters-more codes j four before bytes h is e s =
    let n : ℕ = codes / 2 ^ (56 - 8 * j) in
    let low : bit_and n 255 ≡ n % 256 = and_mask n 8 in
    let told : bytes ≡ four_bases (n % 256) = e ∙ ap (to_le_bytes w32) (is ∙ ap four_letters low) ∙ bytes-four (n % 256) in
    let many : length bytes ≡ 4 = ap length told in
    let long = s.long in
    let room : 64 - 8 * (j + 1) ≡ 56 - 8 * j = omega (arith, h) in
    let index : 4 * (j + 1) ≡ suc (suc (suc (suc (4 * j)))) = omega arith in
    let shift : 64 - 8 * j ≡ 56 - 8 * j + 8 = omega (arith, h) in
    let high : codes / 2 ^ (64 - 8 * j) ≡ n / 256 =
    ap (λ i. codes / 2 ^ i) shift ∙ ap (λ p. codes / p) (pow-add 2 (56 - 8 * j) 8)
    ∙ sym (div-div-eq-div-mul codes (2 ^ (56 - 8 * j)) 256) in
    record {
      long = length-put_four (4 * j) before bytes many (omega (arith, long, h)) ∙ long;
      written = take-put_mid (4 * j) (4 * j + 4 - 4 * j) before bytes (4 * (j + 1)) (omega (arith, many)) (omega (arith, long, h))
          ∙ ap (λ xs. xs ++ bytes) (s.written ∙ ap (text (4 * j)) high)
          ∙ ap (λ xs. text (4 * j) (n / 256) ++ xs) told
          ∙ sym (text-four (4 * j) n)
          ∙ ap (λ i. text i n) (sym index)
          ∙ ap (λ i. text (4 * (j + 1)) (codes / 2 ^ i)) (sym room);
    } where
      length-put_four : (a : ℕ) (xs ys : List ℕ) → length ys ≡ 4 → a + 4 ≤ length xs
          → length (put_mid a (a + 4 - a) xs ys) ≡ length xs
      length-put_four a xs ys four within =
          let front = length-take-le a xs (omega (arith, within)) in
          let rest = length-drop a xs in
          let back = length-drop (a + 4 - a) (drop a xs) in
          length-append (take a xs) (ys ++ drop (a + 4 - a) (drop a xs))
          ∙ (let behind = length-append ys (drop (a + 4 - a) (drop a xs)) in omega (arith, front, rest, back, behind, four, within))

pub letters-all : (codes j : ℕ) (letters : List ℕ) → j ≡ 8 → LettersTo codes j letters → letters ≡ text 32 codes
letters-all codes j letters e s =
    let long = s.long in
    let index : 4 * j ≡ 32 = omega (arith, e) in
    let shift : 64 - 8 * j ≡ 0 = omega (arith, e) in
    let whole : codes / 2 ^ 0 ≡ codes = omega arith in
    sym (take_all 32 letters (omega (arith, long)))
    ∙ ap (λ i. take i letters) (sym index)
    ∙ s.written
    ∙ ap (λ i. text i (codes / 2 ^ (64 - 8 * j))) index
    ∙ ap (λ i. text 32 (codes / 2 ^ i)) shift
    ∙ ap (text 32) whole

-- the letters of a word with its codes in the highest bits
pub letters-front : (k g n : ℕ) → g ≡ k → k ≤ 31 → n < 4 ^ k
    → take g (text 32 (n * 2 ^ (64 - 2 * g) % 2 ^ 64)) ≡ text k n
letters-front k g n same most h =
    let left : 2 * (32 - k) ≡ 64 - 2 * k = omega (arith, most) in
    let sum : 2 * k + (64 - 2 * k) ≡ 64 = omega (arith, most) in
    let power : 4 ^ (32 - k) ≡ 2 ^ (64 - 2 * k) = pow-four (32 - k) ∙ ap (λ i. 2 ^ i) left in
    let some : 0 < 2 ^ (64 - 2 * k) = pow_pos (64 - 2 * k) in
    let all : 4 ^ k * 2 ^ (64 - 2 * k) ≡ 2 ^ 64 =
    ap (λ p. p * 2 ^ (64 - 2 * k)) (pow-four k) ∙ sym (pow-add 2 (2 * k) (64 - 2 * k))
    ∙ ap (λ i. 2 ^ i) sum in
    let small : n * 2 ^ (64 - 2 * k) < 2 ^ 64 = subst (λ m. n * 2 ^ (64 - 2 * k) < m) all (mul-lt-mul_of_pos_right h some) in
    ap (λ g. take g (text 32 (n * 2 ^ (64 - 2 * g) % 2 ^ 64))) same
    ∙ ap (λ m. take k (text 32 m)) (mod-eq_of_lt small)
    ∙ take-text (32 - k) k (n * 2 ^ (64 - 2 * k)) 32 (omega (arith, most))
    ∙ ap (λ p. text k (n * 2 ^ (64 - 2 * k) / p)) power
    ∙ ap (text k) (mul-div_cancel n some)
