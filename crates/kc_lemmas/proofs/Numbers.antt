-- Distinct numbers below a bound: as many as there are leave none out.
use Rattle.std.proofs.Common.{◌≡◌, ◌≢◌, ℕ, ◌<◌, List, [], ◌∷◌, length, true, false, ◌||◌, nat_eq, eqb}
use Rattle.std.proofs.Common.{sym, ap, ◌∙◌, subst, ⊎_elim, arith}
use Rattle.std.specs.List.{AllByRecursion, IsDistinct, list_any}
use Rattle.std.specs.Prelude.{All, Contains}
use Rattle.std.proofs.lemmas.Bool.Decides.{eqb_tells}
use Rattle.std.proofs.lemmas.List.Elements.{All-head, All-tail, All-cons}
use Rattle.std.proofs.lemmas.Map.Keys.{IsDistinct-cons}
use Rattle.std.proofs.lemmas.Map.Steps.{length-le_from_distinct_below}
use Rattle.kc_lemmas.proofs.Distinct.{stands_or_not}

below_all : (n : ℕ) (xs : List ℕ) → All (λ x. x < n) xs → (q : ℕ) → list_any (eqb q) xs ≡ true → q < n
below_all n [] below q is = absurd (cc)
below_all n (x ∷ xs) below q is = ⊎_elim
    (λ (here : (eqb q x ≡ true) × (q ≡ x)). subst (λ (y : ℕ). y < n) (sym here.1) (All-head (λ y. y < n) x xs below))
    (λ (apart : (eqb q x ≡ false) × (q ≢ x)).
    below_all n xs (All-tail (λ y. y < n) x xs below) q (sym (ap (λ b. b || list_any (eqb q) xs) apart.0) ∙ is))
    (eqb_tells q x)

-- n distinct numbers below n leave none out
pub none_left_out : (n : ℕ) (numbers : List ℕ) → IsDistinct nat_eq numbers → All (λ number. number < n) numbers
    → length numbers ≡ n → (number : ℕ) → number < n → Contains numbers number
none_left_out n numbers distinct below many number less = ⊎_elim
    (λ (stands : Contains numbers number). stands)
    (λ (others : AllByRecursion (λ y. eqb number y ≡ false) numbers).
    let more = IsDistinct-cons eqb number numbers others distinct in
    let all = below_all n (number ∷ numbers) (All-cons (λ y. y < n) number numbers less below) in
    let few = length-le_from_distinct_below (number ∷ numbers) n more all in
    absurd (omega (arith, few)))
    (stands_or_not eqb eqb_tells number numbers)
