-- The columns determine the matrix's array and the hash's inverse. These are proofs; they are in `specs/` because the
-- model of a type takes its names only from there.
use Rattle.std.specs.List.{find, range_with_len}
use Rattle.std.proofs.Common.{◌≡◌, ℕ, zero, suc, ◌+◌, ◌-◌, ◌<◌, ◌≤◌, ◌^◌, ◌==◌, Bool, true, false, cond, Some}
use Rattle.std.proofs.Common.{List, ◌++◌, length, take, get_or, replicate, unwrap_or, refl, sym, ◌∙◌, ap, ⊎_elim, arith}
use Rattle.std.proofs.lemmas.Bool.{cases_lt, eq-eqb, eqb-true, false≢true}
use Rattle.std.proofs.lemmas.List.{length-take-le, length-append, length-replicate, ext_get_or, get_or-append_right}
use Rattle.std.proofs.lemmas.List.{get_or_append_left, get_or-take, get_or-replicate, get_or_past}
use Rattle.std.proofs.lemmas.List.FromFn.{length-map-range_with_len, get_or-map-range_with_len}
use Rattle.kc_hash.specs.Hash.{preimage, inverse_of, IsHash}
use Rattle.kc_hash.specs.Matrix.{IsMatrix}
use Rattle.kc_hash.specs.Product.{product, AreInverse}

pub zeros-get_or : (n i : ℕ) → get_or {A = ℕ} (replicate n 0) i 0 ≡ 0
zeros-get_or n i =
    ⊎_elim (λ (h : i < n). get_or-replicate n i 0 0 h)
    (λ (h : n ≤ i). get_or_past (replicate n 0) i 0 (omega (arith, length-replicate {A = ℕ} n 0)))
    (cases_lt i n)

pub columns-length : (bits : ℕ) (columns : List ℕ) → IsMatrix bits columns → length (take bits columns) ≡ bits
columns-length bits columns m =
    let width = m.width in
    let full = m.full in
    let fits : bits ≤ 62 = width.at_most in
    length-take-le bits columns (omega arith)

pub padded-take : (bits : ℕ) (columns : List ℕ) → IsMatrix bits columns →
    take bits columns ++ replicate (62 - length (take bits columns)) 0 ≡ columns
padded-take bits columns m =
    let front = take bits columns in
    let zeros : List ℕ = replicate (62 - length front) 0 in
    let wide : length front ≡ bits = columns-length bits columns m in
    let full : length columns ≡ 62 = m.full in
    let fits : bits ≤ 62 = m.width.at_most in
    ext_get_or 0 (front ++ zeros) columns
    (length-append front zeros ∙ ap (λ k. length front + k) (length-replicate (62 - length front) 0) ∙ omega arith)
    (λ i h.
    ⊎_elim
    (λ (inner : i < bits). get_or_append_left front zeros 0 i (omega arith) ∙ get_or-take bits columns i 0 inner)
    (λ (outer : bits ≤ i).
    get_or-append_right front zeros bits i 0 wide outer
    ∙ zeros-get_or (62 - length front) (i - bits)
    ∙ sym (m.rest i outer))
    (cases_lt i bits))

-- `find` returns the only number of a range that passes a test
find-only : (p : ℕ → Bool) (a n w : ℕ) → a ≤ w → w < a + n → p w ≡ true → ((v : ℕ) → v < a + n → p v ≡ true → v ≡ w)
    → find p (range_with_len a n) ≡ Some w
find-only p a zero w from to holds only = absurd (omega arith)
find-only p a (suc n) w from to holds only =
    first (p a) refl (λ later. find-only p (a + 1) n w later (omega arith) holds (λ v h. only v (omega arith)))
  where
    first : (b : Bool) → p a ≡ b → (a + 1 ≤ w → find p (range_with_len (a + 1) n) ≡ Some w)
        → cond b (Some a) (find p (range_with_len (a + 1) n)) ≡ Some w
    first true e rest = ap Some (only a (omega arith) e)
    first false e rest =
        let other : a ≡ w → ⊥ = λ same. false≢true (sym e ∙ ap p same ∙ holds) in
        rest (omega arith)

preimage-only : (columns : List ℕ) (y w : ℕ) → w < 2 ^ length columns → product columns w ≡ y
    → ((v : ℕ) → v < 2 ^ length columns → product columns v ≡ y → v ≡ w) → preimage columns y ≡ w
unfolding preimage
preimage-only columns y w within is only =
    ap (λ o. unwrap_or o 0)
    (find-only (λ x. product columns x == y) 0 (2 ^ length columns) w (omega arith) (omega arith)
    (eq-eqb (product columns w) y is)
    (λ v h e. only v (omega arith) (eqb-true (product columns v) y e)))

pub inverse_is : (matrix inverse : List ℕ) → IsHash matrix inverse → inverse_of matrix ≡ inverse
unfolding inverse_of
inverse_is matrix inverse h =
    let column : ℕ → ℕ = λ i. preimage matrix (2 ^ i) in
    let both : AreInverse matrix inverse = h.are_inverse in
    let long : length (inverse_of matrix) ≡ length matrix = length-map-range_with_len column 0 (length matrix) in
    ext_get_or 0 (inverse_of matrix) inverse (long ∙ sym both.same_bits)
    (λ i inner.
    let within : i < length matrix = omega (arith, long) in
    get_or-map-range_with_len column 0 (length matrix) i i 0 within (omega arith)
    ∙ preimage-only matrix (2 ^ i) (get_or inverse i 0) (h.columns_below i within) (h.columns_undone i within)
    (λ v below e.
    sym (both.undoes v below)
    ∙ ap (product inverse) (e ∙ sym (h.columns_undone i within))
    ∙ both.undoes (get_or inverse i 0) (h.columns_below i within)))
