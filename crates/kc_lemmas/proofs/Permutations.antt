-- Lists with the same elements: they weigh the same however their elements are weighed, and lists that weigh the same
-- have the same elements.
use Rattle.std.proofs.Common.{◌≡◌, ◌≢◌, ℕ, suc, ◌<◌, ◌⊎◌, List, [], ◌∷◌, length, get_or, Bool, true, false, cond}
use Rattle.std.proofs.Common.{filter, sum_by, refl, sym, ap, ◌∙◌, ⊎_elim, arith}
use Rattle.std.specs.List.{remove}
use Rattle.std.specs.List.Sorted.{IsPermutation}
use Rattle.std.proofs.lemmas.List.Sums.{sum_by-cons, sum_by-remove}
use Rattle.std.proofs.lemmas.List.Sorted.{IsPermutation-refl, IsPermutation-sym, IsPermutation-trans}
use Rattle.std.proofs.lemmas.List.Sorted.{IsPermutation-cons, IsPermutation-remove, sum_by-IsPermutation}
use Rattle.kc_lemmas.proofs.Sums.{sum_by-filter, sum_by-ones}

-- the lists weigh the same, however their elements are weighed
abbrev pub WeighTheSame : {X : Type 0} → List X → List X → Type 0
WeighTheSame {X} xs ys = (h : X → ℕ) → sum_by h xs ≡ sum_by h ys

pub weights-from_IsPermutation : {X : Type 0} (xs ys : List X) → IsPermutation xs ys → WeighTheSame xs ys
weights-from_IsPermutation xs ys same h = sym (sum_by-IsPermutation h xs ys same)

pub length-from_weights : {X : Type 0} (xs ys : List X) → WeighTheSame xs ys → length xs ≡ length ys
length-from_weights xs ys same = sym (sum_by-ones xs) ∙ same (λ _. 1) ∙ sum_by-ones ys

pub weights-filter : {X : Type 0} (p : X → Bool) (xs ys : List X) → WeighTheSame xs ys
    → WeighTheSame (filter p xs) (filter p ys)
weights-filter p xs ys same h = sum_by-filter h p xs ∙ same (λ x. cond (p x) (h x) 0) ∙ sym (sum_by-filter h p ys)

-- for a test of whether two elements are equal, as `eqb` with `eqb_tells` for numbers
module _ {X : Type 0} (equal : X → X → Bool) (tells : (x y : X) → ((equal x y ≡ true) × (x ≡ y)) ⊎ ((equal x y ≡ false) × (x ≢ y))) where
  -- 1 at the element itself, and 0 elsewhere
  weight_at : X → X → ℕ
  weight_at x y = cond (equal y x) 1 0

  weight_at-same : (x : X) → weight_at x x ≡ 1
  unfolding weight_at
  weight_at-same x = ⊎_elim
      (λ (t : (equal x x ≡ true) × (x ≡ x)). ap (λ b. cond b 1 0) t.0)
      (λ (t : (equal x x ≡ false) × (x ≢ x)). absurd (t.1 refl))
      (tells x x)

  weight_at-other : (x y : X) → y ≢ x → weight_at x y ≡ 0
  unfolding weight_at
  weight_at-other x y apart = ⊎_elim
      (λ (t : (equal y x ≡ true) × (y ≡ x)). absurd (apart t.1))
      (λ (t : (equal y x ≡ false) × (y ≢ x)). ap (λ b. cond b 1 0) t.0)
      (tells y x)

  -- an element that weighs in a list is in it
  found : (x : X) (ys : List X) → 0 < sum_by (weight_at x) ys → (k : ℕ) × (k < length ys) × (x ≡ get_or ys k x)
  found x [] positive = absurd (omega arith)
  found x (y ∷ ys) positive = ⊎_elim
      (λ (t : (equal y x ≡ true) × (y ≡ x)). (0, omega arith, sym t.1))
      (λ (t : (equal y x ≡ false) × (y ≢ x)).
      let later = found x ys (omega (arith, sum_by-cons (weight_at x) y ys, weight_at-other x y t.1)) in
      (suc later.0, omega (arith, later.1), later.2))
      (tells y x)

  pub IsPermutation-from_weights : (xs ys : List X) → WeighTheSame xs ys → IsPermutation xs ys
  IsPermutation-from_weights [] [] same = IsPermutation-refl []
  IsPermutation-from_weights [] (y ∷ ys) same = absurd (omega (arith, same (λ _. 1), sum_by-ones (y ∷ ys)))
  IsPermutation-from_weights (x ∷ xs) ys same =
      let at = found x ys (omega (arith, same (weight_at x), sum_by-cons (weight_at x) x xs, weight_at-same x)) in
      IsPermutation-trans (x ∷ xs) (x ∷ remove ys at.0) ys
      (IsPermutation-cons x xs (remove ys at.0) (IsPermutation-from_weights xs (remove ys at.0) (λ h.
      let weighs : h x ≡ h (get_or ys at.0 x) = ap h at.2 in
      omega (arith, same h, sum_by-cons h x xs, sum_by-remove h ys at.0 x at.1))))
      (IsPermutation-sym ys (x ∷ remove ys at.0) (IsPermutation-remove ys at.0 x at.1 at.2))

  -- what passes a test is the same elements if the lists have the same elements
  pub IsPermutation-filter : (p : X → Bool) (xs ys : List X) → IsPermutation xs ys
      → IsPermutation (filter p xs) (filter p ys)
  IsPermutation-filter p xs ys same = IsPermutation-from_weights (filter p xs) (filter p ys) (weights-filter p xs ys (weights-from_IsPermutation xs ys same))
