-- The greatest of some numbers.
use Rattle.std.proofs.Common.{◌≡◌, ◌≢◌, ℕ, ◌<◌, ◌≤◌, ◌⊎◌, inl, inr, List, [], ◌∷◌, ◌++◌, Contains, fold, max}
use Rattle.std.proofs.Common.{sum_by, nat_eq, cond, refl, sym, ap, ◌∙◌, arith, ⊎_elim}
use Rattle.std.proofs.lemmas.Bool.{cases_eq, cases_lt, ne_eqb}
use Rattle.std.proofs.lemmas.Bool.Decides.{eqb_tells}
use Rattle.std.proofs.lemmas.List.Sums.{fold-append}
use Rattle.kc_lemmas.proofs.Distinct.{Contains-from_times, times-some}
use Rattle.kc_lemmas.proofs.Lists.{Contains-cons, Contains-cons_cases}

-- the greatest of a number and others is not less than the number
pub max-least : (a : ℕ) (ns : List ℕ) → a ≤ fold max a ns
max-least a [] = omega arith
max-least a (n ∷ ns) = let rest = max-least (max a n) ns in omega (arith, rest)

-- nor than one of the others
pub max-most : (a : ℕ) (ns : List ℕ) (n : ℕ) → Contains ns n → n ≤ fold max a ns
max-most a [] n (k, within, is) = absurd (omega (arith, within))
max-most a (m ∷ ns) n there =
    ⊎_elim
    (λ (first : m ≡ n). let least = max-least (max a m) ns in omega (arith, least, first))
    (λ (later : Contains ns n). max-most (max a m) ns n later)
    (Contains-cons_cases ns n m there)

-- and it is one of them
pub max-reached : (a : ℕ) (ns : List ℕ) → (fold max a ns ≡ a) ⊎ Contains ns (fold max a ns)
max-reached a [] = inl refl
max-reached a (n ∷ ns) =
    ⊎_elim
    (λ (first : fold max (max a n) ns ≡ max a n).
    ⊎_elim
    (λ (less : a < n). let is : fold max (max a n) ns ≡ n = omega (arith, first, less) in inr (0, omega arith, sym is))
    (λ (most : n ≤ a). let is : fold max (max a n) ns ≡ a = omega (arith, first, most) in inl is)
    (cases_lt a n))
    (λ (later : Contains ns (fold max (max a n) ns)). inr (Contains-cons ns (fold max (max a n) ns) n later))
    (max-reached (max a n) ns)

-- numbers that weigh the same, but for 0, have no greater one
max-le : (ns others : List ℕ) → ((h : ℕ → ℕ) → h 0 ≡ 0 → sum_by h ns ≡ sum_by h others) → fold max 0 ns ≤ fold max 0 others
max-le ns others same = by (max-reached 0 ns)
  where
    greatest : ℕ
    greatest = fold max 0 ns

    by : (greatest ≡ 0) ⊎ Contains ns greatest → greatest ≤ fold max 0 others
    by (inl none) = omega (arith, none)
    by (inr there) =
        ⊎_elim
        (λ (none : greatest ≡ 0). omega (arith, none))
        (λ (some : greatest ≢ 0).
        let weighs = same (λ n. cond (nat_eq n greatest) 1 0) (ap (λ b. cond b 1 0) (ne_eqb 0 greatest (λ e. some (sym e)))) in
        let stands = times-some nat_eq eqb_tells greatest ns there in
        max-most 0 others greatest (Contains-from_times nat_eq eqb_tells greatest others (omega (arith, weighs, stands))))
        (cases_eq greatest 0)

-- and the same greatest one
pub max-same : (ns others : List ℕ) → ((h : ℕ → ℕ) → h 0 ≡ 0 → sum_by h ns ≡ sum_by h others) → fold max 0 ns ≡ fold max 0 others
max-same ns others same =
    let most = max-le ns others same in
    let least = max-le others ns (λ h none. sym (same h none)) in
    omega (arith, most, least)

-- ---- joined lists

max-from : (a : ℕ) (ns : List ℕ) → fold max a ns ≡ max a (fold max 0 ns)
max-from a [] = omega arith
max-from a (n ∷ ns) =
    let here = max-from (max a n) ns in
    let there = max-from (max 0 n) ns in
    omega (arith, here, there)

pub max-append : (ns more : List ℕ) → fold max 0 (ns ++ more) ≡ max (fold max 0 ns) (fold max 0 more)
max-append ns more = fold-append max 0 ns more ∙ max-from (fold max 0 ns) more
