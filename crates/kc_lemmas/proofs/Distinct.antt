-- Lists whose elements differ, and lists whose elements differ by a key.
use Rattle.std.proofs.Common.{◌≡◌, ◌≢◌, ℕ, ◌<◌, ◌≤◌, ◌⊎◌, inl, inr, List, [], ◌∷◌, ◌++◌, length, get_or, map, Bool}
use Rattle.std.proofs.Common.{true, false, cond, filter, count_by, Contains, refl, sym, ap, ◌∙◌, subst, ⊎_elim, arith}
use Rattle.std.specs.List.{AllByRecursion, IsDistinct}
use Rattle.std.proofs.lemmas.List.Elements.{All-from_recursion, recursion_from_All, All-contains, All-push}
use Rattle.std.proofs.lemmas.List.{get_or_default}
use Rattle.std.proofs.lemmas.List.Sums.{sum_by-cons}
use Rattle.std.proofs.lemmas.Map.Keys.{IsDistinct-cons, IsDistinct-head, IsDistinct-tail}
use Rattle.kc_lemmas.proofs.Lists.{Contains-cons, Contains-cons_cases, Contains-map}
use Rattle.kc_lemmas.proofs.Sums.{count_by-none, count_by-some}

-- what is filtered keeps its keys apart
pub IsDistinct-filter_by : {K X : Type 0} (e : K → K → Bool) (key : X → K) (p : X → Bool) (xs : List X)
    → IsDistinct e (map key xs) → IsDistinct e (map key (filter p xs))
unfolding IsDistinct
IsDistinct-filter_by e key p [] apart = tt
IsDistinct-filter_by {K} {X} e key p (x ∷ xs) apart =
    by (p x) (IsDistinct-filter_by e key p xs (IsDistinct-tail e (key x) (map key xs) apart)) (others xs (IsDistinct-head e (key x) (map key xs) apart))
  where
    by : (b : Bool) → IsDistinct e (map key (filter p xs))
        → AllByRecursion (λ k. e (key x) k ≡ false) (map key (filter p xs))
        → IsDistinct e (map key (cond b (x ∷ filter p xs) (filter p xs)))
    by true rest head = IsDistinct-cons e (key x) (map key (filter p xs)) head rest
    by false rest head = rest

    kept : (b : Bool) (y : X) (ys zs : List X) → e (key x) (key y) ≡ false
        → AllByRecursion (λ k. e (key x) k ≡ false) (map key zs)
        → AllByRecursion (λ k. e (key x) k ≡ false) (map key (cond b (y ∷ zs) zs))
    kept true y ys zs here rest = (here, rest)
    kept false y ys zs here rest = rest

    others : (ys : List X) → AllByRecursion (λ k. e (key x) k ≡ false) (map key ys)
        → AllByRecursion (λ k. e (key x) k ≡ false) (map key (filter p ys))
    others [] all = tt
    others (y ∷ ys) all = kept (p y) y ys (filter p ys) all.0 (others ys all.1)

-- for a test of whether two keys are equal, as `eqb` with `eqb_tells` for numbers
module _ {K : Type 0} (equal : K → K → Bool) (tells : (x y : K) → ((equal x y ≡ true) × (x ≡ y)) ⊎ ((equal x y ≡ false) × (x ≢ y))) where
  pub equal_flips : (x y : K) → equal x y ≡ equal y x
  equal_flips x y = ⊎_elim
      (λ (same : (equal x y ≡ true) × (x ≡ y)). ap (λ z. equal x z) (sym same.1) ∙ ap (λ z. equal z x) same.1)
      (λ (apart : (equal x y ≡ false) × (x ≢ y)). apart.0 ∙ sym (differs (tells y x) (λ e. apart.1 (sym e))))
      (tells x y)
    where
      differs : ((equal y x ≡ true) × (y ≡ x)) ⊎ ((equal y x ≡ false) × (y ≢ x)) → y ≢ x → equal y x ≡ false
      differs (inl same) apart = absurd (apart same.1)
      differs (inr other) apart = other.0

  pub equal_apart : (x y : K) → x ≢ y → equal x y ≡ false
  equal_apart x y apart = ⊎_elim
      (λ (same : (equal x y ≡ true) × (x ≡ y)). absurd (apart same.1))
      (λ (other : (equal x y ≡ false) × (x ≢ y)). other.0)
      (tells x y)

  pub equal_same : (x y : K) → x ≡ y → equal x y ≡ true
  equal_same x y same = ⊎_elim
      (λ (t : (equal x y ≡ true) × (x ≡ y)). t.0)
      (λ (other : (equal x y ≡ false) × (x ≢ y)). absurd (other.1 same))
      (tells x y)

  pub same_from_equal : (x y : K) → equal x y ≡ true → x ≡ y
  same_from_equal x y is = ⊎_elim
      (λ (t : (equal x y ≡ true) × (x ≡ y)). t.1)
      (λ (other : (equal x y ≡ false) × (x ≢ y)). absurd (let never : true ≡ false = sym is ∙ other.0 in cc))
      (tells x y)

  -- a key is in a list, or each key of the list is another
  pub stands_or_not : (x : K) (xs : List K) → Contains xs x ⊎ AllByRecursion (λ y. equal x y ≡ false) xs
  stands_or_not x [] = inr tt
  stands_or_not x (y ∷ ys) = ⊎_elim
      (λ (here : (equal x y ≡ true) × (x ≡ y)). inl (0, omega arith, sym here.1))
      (λ (apart : (equal x y ≡ false) × (x ≢ y)). ⊎_elim
      (λ (later : Contains ys x). inl (Contains-cons ys x y later))
      (λ (others : AllByRecursion (λ z. equal x z ≡ false) ys). inr (apart.0, others))
      (stands_or_not x ys))
      (tells x y)

  -- one more key that isn't there yet
  pub IsDistinct-push_new : (xs : List K) (y : K) → IsDistinct equal xs → ¬ Contains xs y
      → IsDistinct equal (xs ++ y ∷ [])
  unfolding IsDistinct
  IsDistinct-push_new [] y distinct new = (tt, tt)
  IsDistinct-push_new (x ∷ xs) y distinct new = IsDistinct-cons equal x (xs ++ y ∷ [])
      (recursion_from_All (λ z. equal x z ≡ false) (xs ++ y ∷ []) (All-push (λ z. equal x z ≡ false) xs y
      (All-from_recursion (λ z. equal x z ≡ false) xs (IsDistinct-head equal x xs distinct))
      (equal_apart x y (λ same. new (0, omega arith, same)))))
      (IsDistinct-push_new xs y (IsDistinct-tail equal x xs distinct) (λ stands. new (Contains-cons xs y x stands)))

  -- the first of distinct keys is none of the others
  pub head_apart : (x : K) (xs : List K) → IsDistinct equal (x ∷ xs) → ¬ Contains xs x
  head_apart x xs distinct stands =
      let never : equal x x ≡ false = All-contains (λ y. equal x y ≡ false) xs x (All-from_recursion (λ y. equal x y ≡ false) xs (IsDistinct-head equal x xs distinct)) stands in
      absurd (let both : true ≡ false = sym (equal_same x x refl) ∙ never in cc)

  -- of elements that differ by their keys, two with one key are one
  pub one_by_key : {X : Type 0} (key : X → K) (xs : List X) (x y : X) → IsDistinct equal (map key xs) → Contains xs x
      → Contains xs y → key x ≡ key y → x ≡ y
  one_by_key key [] x y distinct (k, within, is) there same = absurd (omega arith)
  one_by_key {X} key (z ∷ zs) x y distinct here there same = ⊎_elim
      (λ (first : z ≡ x). ⊎_elim
      (λ (other : z ≡ y). sym first ∙ other)
      (λ (later : Contains zs y). absurd (none (subst (Contains (map key zs)) (sym same ∙ ap key (sym first)) (Contains-map key zs y later))))
      (Contains-cons_cases zs y z there))
      (λ (later : Contains zs x). ⊎_elim
      (λ (other : z ≡ y). absurd (none (subst (Contains (map key zs)) (same ∙ ap key (sym other)) (Contains-map key zs x later))))
      (λ (last : Contains zs y). one_by_key key zs x y (IsDistinct-tail equal (key z) (map key zs) distinct) later last same)
      (Contains-cons_cases zs y z there))
      (Contains-cons_cases zs x z here)
    where
      none : ¬ Contains (map key zs) (key z)
      none = head_apart (key z) (map key zs) distinct

  -- how often a key occurs in a list
  abbrev pub times : K → List K → ℕ
  times x xs = count_by (λ y. equal y x) xs

  pub times-absent : (x : K) (xs : List K) → ¬ Contains xs x → times x xs ≡ 0
  times-absent x xs absent = count_by-none (λ y. equal y x) xs (λ k d within. equal_apart (get_or xs k d) x (λ same. absent (k, within, place k d within same)))
    where
      place : (k : ℕ) (d : K) → k < length xs → get_or xs k d ≡ x → get_or xs k x ≡ x
      place k d within same = get_or_default xs k x d within ∙ same

  pub Contains-from_times : (x : K) (xs : List K) → 0 < times x xs → Contains xs x
  Contains-from_times x xs positive =
      let (k, within, is) = count_by-some (λ y. equal y x) xs positive in
      (k, within, same_from_equal (get_or xs k x) x (is x))

  pub times-some : (x : K) (xs : List K) → Contains xs x → 0 < times x xs
  times-some x [] (k, within, is) = absurd (omega arith)
  times-some x (y ∷ ys) stands = ⊎_elim
      (λ (here : y ≡ x). omega (arith, sum_by-cons (λ z. cond (equal z x) 1 0) y ys, ap {B = ℕ} (λ b. cond b 1 0) (equal_same y x here)))
      (λ (later : Contains ys x). omega (arith, sum_by-cons (λ z. cond (equal z x) 1 0) y ys, times-some x ys later))
      (Contains-cons_cases ys x y stands)

  pub times-distinct : (x : K) (xs : List K) → IsDistinct equal xs → times x xs ≤ 1
  times-distinct x [] distinct = omega arith
  times-distinct x (y ∷ ys) distinct = ⊎_elim
      (λ (here : (equal y x ≡ true) × (y ≡ x)).
      let none = times-absent x ys (λ stands. head_apart y ys distinct (subst (Contains ys) (sym here.1) stands)) in
      omega (arith, sum_by-cons (λ z. cond (equal z x) 1 0) y ys, ap {B = ℕ} (λ b. cond b 1 0) here.0, none))
      (λ (apart : (equal y x ≡ false) × (y ≢ x)).
      omega (arith, sum_by-cons (λ z. cond (equal z x) 1 0) y ys, ap {B = ℕ} (λ b. cond b 1 0) apart.0, times-distinct x ys (IsDistinct-tail equal y ys distinct)))
      (tells y x)
