-- The bytes of a block after which others were put, and the digits of small numbers.
use Rattle.std.proofs.Common.{◌≡◌, ℕ, ◌+◌, ◌/◌, ◌%◌, ◌<◌, ◌≤◌, List, [], ◌∷◌, ◌++◌, length, take, sym, ◌∙◌, ap, arith, lit<}
use Rattle.std.specs.Prelude.{decimal}
use Rattle.std.proofs.lemmas.Fmt.{decimal_digit, decimal_step, length-decimal-le}
use Rattle.std.proofs.Math.Seq.{take-append-add}
use Rattle.std.proofs.lemmas.List.{length-append, length-take-le, take-append-le}
use borrow.Rule.Slice.PartMut.{put_mid, post_of}

-- the first of the bytes that were written count
pub put_front : (at size count : ℕ) (old bytes : List ℕ) → at ≤ length old → count ≤ length bytes
    → take (at + count) (put_mid at size old bytes) ≡ take at old ++ take count bytes
put_front at size count old bytes within some =
    let long = length-take-le at old within in
    ap (λ n. take (n + count) (put_mid at size old bytes)) (sym long)
    ∙ take-append-add (take at old) (bytes ++ post_of at size old) count
    ∙ ap (λ bs. take at old ++ bs) (take-append-le count bytes (post_of at size old) some)

pub one_digit : (n : ℕ) → n < 10 → (48 + n % 10) ∷ [] ≡ decimal n
one_digit n h =
    let last : n % 10 ≡ n = omega (arith, h) in
    ap (λ d. (48 + d) ∷ []) last ∙ sym (decimal_digit n h)

pub two_digits : (n : ℕ) → 10 ≤ n → n < 100 → (48 + n / 10) ∷ (48 + n % 10) ∷ [] ≡ decimal n
two_digits n some h =
    sym (decimal_step n some (omega (arith, h))
    ∙ ap (λ ds. ds ++ (48 + n % 10) ∷ []) (decimal_digit (n / 10) (omega (arith, h))))

pub small_behind : (n : ℕ) (old new digits : List ℕ) → n < 100 → digits ≡ decimal n → new ≡ old ++ digits
    → length new ≤ length old + 20
small_behind n old new digits h is e =
    let many = length-decimal-le 2 n (lit< tt) h (omega (arith, h)) in
    let same = ap length is in
    let whole = ap length e in
    let parts = length-append old digits in
    omega (arith, many, same, whole, parts)
