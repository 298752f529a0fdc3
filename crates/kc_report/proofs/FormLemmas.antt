-- Whether a word or its reverse complement comes first: their first four letters decide, if they differ.
use Rattle.std.proofs.Common.{◌≡◌, ℕ, suc, ◌+◌, ◌-◌, ◌*◌, ◌/◌, ◌%◌, ◌^◌, ◌<◌, ◌≤◌, true, ltb, List, ◌++◌, map, reverse, length, take}
use Rattle.std.proofs.Common.{sym, ap, ◌∙◌, subst, arith, bit_and, ⊎_elim}
use Rattle.std.specs.Prelude.{IsTrue}
use Rattle.std.proofs.Math.Nat.{div-lt_iff_lt-mul, div-mul-le_self}
use Rattle.std.proofs.Math.Seq.{take-append_seam}
use Rattle.std.proofs.lemmas.Bool.{cases_lt, lt-ltb, ltb-true}
use Rattle.std.proofs.lemmas.List.{map-append, reverse-append}
use Rattle.std.proofs.lemmas.Nat.{and_mask, pow_pos, pow-add}
use Rattle.kc_kmer.specs.Letter.{complement}
use Rattle.kc_kmer.specs.Word.{number, text, form, reverse_complement}
use Rattle.kc_kmer.proofs.Letters.{pow-four}
use Rattle.kc_kmer.proofs.WordLemmas.{length-text, are_bases-text, text-number, number-text, number-lt, same_from_text}
use Rattle.kc_kmer.proofs.WordLemmas.{text-canonical, length-reverse_complement, are_bases-reverse_complement}
use Rattle.kc_report.proofs.LetterLemmas.{four_bases, text-four, take-text}

-- the number of what the other strand reads
abbrev pub other : ℕ → ℕ → ℕ
other k n = number (reverse_complement (text k n))

length-other : (k n : ℕ) → length (reverse_complement (text k n)) ≡ k
length-other k n = length-reverse_complement (text k n) ∙ length-text k n

text-other : (k n : ℕ) → text k (other k n) ≡ reverse_complement (text k n)
text-other k n = text-number k (reverse_complement (text k n)) (length-other k n)
    (are_bases-reverse_complement (text k n) (are_bases-text k n))

other-below : (k n : ℕ) → other k n < 4 ^ k
other-below k n = subst (λ m. other k n < 4 ^ m) (length-other k n) (number-lt (reverse_complement (text k n)))

some-four : (j : ℕ) → 0 < 4 ^ j
some-four j = subst (λ p. 0 < p) (sym (pow-four j)) (pow_pos (2 * j))

-- ---- the first four letters of the other strand are what it reads of the last four

last-four : (n : ℕ) → text 4 (n % 256) ≡ four_bases (n % 256)
unfolding text
last-four n =
    let same : n % 256 % 256 ≡ n % 256 = omega arith in
    text-four 0 (n % 256) ∙ ap four_bases same

text-apart : (j n : ℕ) → text (suc (suc (suc (suc j)))) n ≡ text j (n / 256) ++ text 4 (n % 256)
text-apart j n = text-four j n ∙ ap (λ xs. text j (n / 256) ++ xs) (sym (last-four n))

reverse_complement-append : (xs ys : List ℕ) → reverse_complement (xs ++ ys) ≡ reverse_complement ys ++ reverse_complement xs
unfolding reverse_complement
reverse_complement-append xs ys =
    ap reverse (map-append complement xs ys) ∙ reverse-append (map complement xs) (map complement ys)

front-other : (k j n : ℕ) → k ≡ suc (suc (suc (suc j)))
    → take 4 (reverse_complement (text k n)) ≡ reverse_complement (text 4 (n % 256))
front-other k j n e =
    let last : List ℕ = reverse_complement (text 4 (n % 256)) in
    let rest : List ℕ = reverse_complement (text j (n / 256)) in
    ap (λ i. take 4 (reverse_complement (text i n))) e
    ∙ ap (λ xs. take 4 (reverse_complement xs)) (text-apart j n)
    ∙ ap (take 4) (reverse_complement-append (text j (n / 256)) (text 4 (n % 256)))
    ∙ subst (λ i. take i (last ++ rest) ≡ last) (length-other 4 (n % 256)) (take-append_seam last rest)

first-other : (k j n : ℕ) → k ≡ 4 + j → other k n / 4 ^ j ≡ other 4 (n % 256)
first-other k j n e =
    let power : 4 ^ k ≡ 256 * 4 ^ j = ap (λ i. 4 ^ i) e ∙ pow-add 4 4 j in
    let below : other k n < 256 * 4 ^ j = subst (λ m. other k n < m) power (other-below k n) in
    let small : other k n / 4 ^ j < 256 = (div-lt_iff_lt-mul {k = 4 ^ j} {x = other k n} {y = 256} (some-four j)).1 below in
    let index : k ≡ suc (suc (suc (suc j))) = omega (arith, e) in
    let spelled : text 4 (other k n / 4 ^ j) ≡ reverse_complement (text 4 (n % 256)) =
    sym (take-text j 4 (other k n) k e) ∙ ap (take 4) (text-other k n) ∙ front-other k j n index in
    sym (number-text 4 (other k n / 4 ^ j) small) ∙ ap number spelled

-- ---- what the first four letters decide

less-front : (n m p : ℕ) → 0 < p → n / p < m / p → n < m
less-front n m p some less =
    let short = (div-lt_iff_lt-mul {k = p} {x = n} {y = m / p} some).0 less in
    let whole = div-mul-le_self m p in
    omega (arith, short, whole)

-- the lesser of both is the form
formed-first : (k n : ℕ) → n < 4 ^ k → n ≤ other k n → form true (text k n) ≡ text k n
unfolding form
formed-first k n below first = sym ((text-canonical k n (other k n) below (other-below k n) (text-other k n)).1 first)

formed-second : (k n : ℕ) → n < 4 ^ k → other k n < n → form true (text k n) ≡ text k n → ⊥
unfolding form
formed-second k n below second same =
    let turned = (text-canonical k n (other k n) below (other-below k n) (text-other k n)).0 second in
    let one = same_from_text k (other k n) n (other-below k n) below (turned ∙ same) in
    omega (arith, second, one)

pub told-first : (k n g first opposite : ℕ) → n < 4 ^ k → g ≡ k → 4 ≤ g → first ≡ n / 2 ^ (2 * g - 8)
    → opposite ≡ other 4 (bit_and n 255) → (first ≡ opposite → ⊥)
    → (IsTrue (ltb first opposite) → form true (text k n) ≡ text k n)
    × (form true (text k n) ≡ text k n → IsTrue (ltb first opposite))
told-first k n g first opposite below same least front back differ =
    let j : ℕ = g - 4 in
    let whole : k ≡ 4 + (g - 4) = omega (arith, same, least) in
    let shift : 2 * (g - 4) ≡ 2 * g - 8 = omega (arith, least) in
    let power : 2 ^ (2 * g - 8) ≡ 4 ^ (g - 4) = sym (pow-four (g - 4) ∙ ap (λ i. 2 ^ i) shift) in
    let here : first ≡ n / 4 ^ (g - 4) = front ∙ ap (λ p. n / p) power in
    let there : opposite ≡ other k n / 4 ^ (g - 4) =
    back ∙ ap (other 4) (and_mask n 8) ∙ sym (first-other k (g - 4) n whole) in
    let some = some-four (g - 4) in
    ⊎_elim
    (λ less. let lesser = less-front n (other k n) (4 ^ (g - 4)) some (omega (arith, here, there, less)) in
    (λ _. formed-first k n below (omega (arith, lesser)), λ _. lt-ltb first opposite less))
    (λ more. let greater = less-front (other k n) n (4 ^ (g - 4)) some (omega (arith, here, there, more, differ)) in
    (λ lt. absurd (let less = ltb-true first opposite lt in omega (arith, more, less)), λ formed. absurd (formed-second k n below greater formed)))
    (cases_lt first opposite)
