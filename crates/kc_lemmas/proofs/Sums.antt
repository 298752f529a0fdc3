-- Sums and counts of lists, whatever their elements and weights are. A count is a sum of ones and zeros: what holds for
-- `sum_by` holds for `count_by`.
use Rattle.std.proofs.Common.{◌≡◌, ℕ, zero, suc, ◌+◌, ◌<◌, ◌≤◌, List, [], ◌∷◌, length, get_or, map, set, Bool, true}
use Rattle.std.proofs.Common.{false, cond, eqb, ne_eqb, ◌≢◌, Option, Some, None, filter, filter_map, sum_by, count_by}
use Rattle.std.proofs.Common.{All, Contains, refl, sym, ap, ◌∙◌, ⊎_elim, arith}
use Rattle.std.specs.List.{cons_option, flat_map, range_with_len}
use Rattle.std.specs.Option.{option_map_or}
use Rattle.std.proofs.lemmas.List.Elements.{All-head, All-tail}
use Rattle.std.proofs.lemmas.Bool.Decides.{eqb_tells}
use Rattle.std.proofs.lemmas.List.Folds.{fold-map}
use Rattle.std.proofs.lemmas.List.FromFn.{sum_by-map-range_with_len_more}
use Rattle.std.proofs.lemmas.List.Sums.{sum_by-cons, sum_by-append, get_or-le-sum_by}
use Rattle.kc_lemmas.proofs.Lists.{All-range}
use lib.ListN.{get_elem?}
use mathlib.Core.Option.{some, some-ne-none, some-injective}

-- ---- one list under one weight or two

pub sum_by-ones : {X : Type 0} (xs : List X) → sum_by (λ _. 1) xs ≡ length xs
sum_by-ones [] = refl
sum_by-ones {X} (x ∷ xs) = omega (arith, sum_by-cons (λ (y : X). 1) x xs, sum_by-ones xs)

pub sum_by-plus : {X : Type 0} (f g : X → ℕ) (xs : List X) → sum_by (λ x. f x + g x) xs ≡ sum_by f xs + sum_by g xs
sum_by-plus f g [] = refl
sum_by-plus f g (x ∷ xs) =
    omega (arith, sum_by-cons (λ y. f y + g y) x xs, sum_by-cons f x xs, sum_by-cons g x xs, sum_by-plus f g xs)

pub sum_by-same : {X : Type 0} (f g : X → ℕ) (xs : List X) → All (λ x. f x ≡ g x) xs → sum_by f xs ≡ sum_by g xs
sum_by-same f g [] same = refl
sum_by-same f g (x ∷ xs) same =
    omega (arith, sum_by-cons f x xs, sum_by-cons g x xs, All-head (λ y. f y ≡ g y) x xs same, sum_by-same f g xs (All-tail (λ y. f y ≡ g y) x xs same))

pub sum_by-at_most : {X : Type 0} (f g : X → ℕ) (xs : List X) → All (λ x. f x ≤ g x) xs → sum_by f xs ≤ sum_by g xs
sum_by-at_most f g [] less = omega arith
sum_by-at_most f g (x ∷ xs) less =
    omega (arith, sum_by-cons f x xs, sum_by-cons g x xs, All-head (λ y. f y ≤ g y) x xs less, sum_by-at_most f g xs (All-tail (λ y. f y ≤ g y) x xs less))

pub sum_by-zeros : {X : Type 0} (f : X → ℕ) (xs : List X) → All (λ x. f x ≡ 0) xs → sum_by f xs ≡ 0
sum_by-zeros f [] none = refl
sum_by-zeros f (x ∷ xs) none =
    omega (arith, sum_by-cons f x xs, All-head (λ y. f y ≡ 0) x xs none, sum_by-zeros f xs (All-tail (λ y. f y ≡ 0) x xs none))

-- a sum above 0 has a term above 0
pub sum_by-some : {X : Type 0} (f : X → ℕ) (xs : List X) → 0 < sum_by f xs
    → (k : ℕ) × (k < length xs) × ((d : X) → 0 < f (get_or xs k d))
sum_by-some f [] positive = absurd (omega arith)
sum_by-some {X} f (x ∷ xs) positive = by (f x) refl (λ none. sum_by-some f xs (omega (arith, sum_by-cons f x xs)))
  where
    by : (n : ℕ) → n ≡ f x → (f x ≡ 0 → (k : ℕ) × (k < length xs) × ((d : X) → 0 < f (get_or xs k d)))
        → (k : ℕ) × (k < length (x ∷ xs)) × ((d : X) → 0 < f (get_or (x ∷ xs) k d))
    by zero is later =
        let (k, within, more) = later (sym is) in
        (suc k, omega arith, more)
    by (suc n) is later = (0, omega arith, λ d. omega (arith, is))

-- no term is above the sum
pub term-le-sum_by : {X : Type 0} (f : X → ℕ) (xs : List X) (x : X) → Contains xs x → f x ≤ sum_by f xs
term-le-sum_by f xs x (k, within, is) = omega (arith, get_or-le-sum_by f xs k x within, ap f is)

-- ---- counts

pub count_by-same : {X : Type 0} (p q : X → Bool) (xs : List X) → All (λ x. p x ≡ q x) xs
    → count_by p xs ≡ count_by q xs
count_by-same p q xs same =
    sum_by-same (λ x. cond (p x) 1 0) (λ x. cond (q x) 1 0) xs (λ k d within. ap (λ b. cond b 1 0) (same k d within))

pub count_by-all : {X : Type 0} (p : X → Bool) (xs : List X) → All (λ x. p x ≡ true) xs → count_by p xs ≡ length xs
count_by-all p xs all = count_by-same p (λ _. true) xs all ∙ sum_by-ones xs

pub count_by-none : {X : Type 0} (p : X → Bool) (xs : List X) → All (λ x. p x ≡ false) xs → count_by p xs ≡ 0
count_by-none p xs none = sum_by-zeros (λ x. cond (p x) 1 0) xs (λ k d within. ap (λ b. cond b 1 0) (none k d within))

-- a count above 0 has an element that passes
pub count_by-some : {X : Type 0} (p : X → Bool) (xs : List X) → 0 < count_by p xs
    → (k : ℕ) × (k < length xs) × ((d : X) → p (get_or xs k d) ≡ true)
count_by-some {X} p xs positive =
    let (k, within, more) = sum_by-some (λ x. cond (p x) 1 0) xs positive in
    (k, within, λ d. passes (p (get_or xs k d)) (more d))
  where
    passes : (b : Bool) → 0 < cond b 1 0 → b ≡ true
    passes true more = refl
    passes false more = absurd (omega arith)

-- ---- lists made from lists

pub sum_by-map : {X Y : Type 0} (f : Y → ℕ) (g : X → Y) (xs : List X) → sum_by f (map g xs) ≡ sum_by (λ x. f (g x)) xs
sum_by-map f g xs = fold-map (λ (a : ℕ) y. a + f y) g 0 xs

pub sum_by-flat_map : {X Y : Type 0} (f : Y → ℕ) (g : X → List Y) (xs : List X)
    → sum_by f (flat_map g xs) ≡ sum_by (λ x. sum_by f (g x)) xs
sum_by-flat_map f g [] = refl
sum_by-flat_map f g (x ∷ xs) =
    omega (arith, sum_by-append f (g x) (flat_map g xs), sum_by-flat_map f g xs, sum_by-cons (λ y. sum_by f (g y)) x xs)

pub count_by-flat_map : {X Y : Type 0} (p : Y → Bool) (g : X → List Y) (xs : List X)
    → count_by p (flat_map g xs) ≡ sum_by (λ x. count_by p (g x)) xs
count_by-flat_map p g xs = sum_by-flat_map (λ y. cond (p y) 1 0) g xs

pub sum_by-filter : {X : Type 0} (f : X → ℕ) (p : X → Bool) (xs : List X)
    → sum_by f (filter p xs) ≡ sum_by (λ x. cond (p x) (f x) 0) xs
sum_by-filter f p [] = refl
sum_by-filter f p (x ∷ xs) =
    let rest = sum_by-filter f p xs in
    kept (p x) ∙ ap (λ n. cond (p x) (f x) 0 + n) rest ∙ sym (sum_by-cons (λ y. cond (p y) (f y) 0) x xs)
  where
    kept : (b : Bool) → sum_by f (cond b (x ∷ filter p xs) (filter p xs)) ≡ cond b (f x) 0 + sum_by f (filter p xs)
    kept true = sum_by-cons f x (filter p xs)
    kept false = omega arith

pub sum_by-filter_map : {X Y : Type 0} (f : Y → ℕ) (h : X → Option Y) (xs : List X)
    → sum_by f (filter_map h xs) ≡ sum_by (λ x. option_map_or f (h x) 0) xs
sum_by-filter_map f h [] = refl
sum_by-filter_map {X} {Y} f h (x ∷ xs) =
    let rest = sum_by-filter_map f h xs in
    kept (h x) ∙ ap (λ n. option_map_or f (h x) 0 + n) rest ∙ sym (sum_by-cons (λ y. option_map_or f (h y) 0) x xs)
  where
    kept : (o : Option Y)
        → sum_by f (cons_option o (filter_map h xs)) ≡ option_map_or f o 0 + sum_by f (filter_map h xs)
    kept None = omega arith
    kept (Some y) = sum_by-cons f y (filter_map h xs)

-- ---- lists that are read by `get_elem?`, as the views of an atomic table are

pub sum_by-set_elem : {X : Type 0} (f : X → ℕ) (xs : List X) (k : ℕ) (x y : X) → get_elem? xs k ≡ some x
    → sum_by f (set xs k y) + f x ≡ sum_by f xs + f y
sum_by-set_elem f [] k x y at = absurd (some-ne-none x (sym at))
sum_by-set_elem f (z ∷ zs) zero x y at =
    let same : f z ≡ f x = ap f (some-injective z x at) in
    omega (arith, sum_by-cons f z zs, sum_by-cons f y zs)
sum_by-set_elem f (z ∷ zs) (suc k) x y at =
    omega (arith, sum_by-set_elem f zs k x y at, sum_by-cons f z zs, sum_by-cons f z (set zs k y))

pub sum_by-at_most_elem : {X : Type 0} (f g : X → ℕ) (xs : List X)
    → ((k : ℕ) (x : X) → get_elem? xs k ≡ some x → f x ≤ g x) → sum_by f xs ≤ sum_by g xs
sum_by-at_most_elem f g [] less = omega arith
sum_by-at_most_elem f g (x ∷ xs) less =
    omega (arith, sum_by-cons f x xs, sum_by-cons g x xs, less zero x refl, sum_by-at_most_elem f g xs (λ k. less (suc k)))

-- ---- ranges

pub sum_by-range_more : (f : ℕ → ℕ) (n : ℕ) → sum_by f (range_with_len 0 (n + 1)) ≡ sum_by f (range_with_len 0 n) + f n
sum_by-range_more f n =
    sym (sum_by-map f (λ x. x) (range_with_len 0 (n + 1)))
    ∙ sum_by-map-range_with_len_more f (λ (x : ℕ). x) 0 n n (omega arith)
    ∙ ap (λ m. m + f n) (sum_by-map f (λ x. x) (range_with_len 0 n))

pub count_by-range_more : (p : ℕ → Bool) (n : ℕ)
    → count_by p (range_with_len 0 (n + 1)) ≡ count_by p (range_with_len 0 n) + cond (p n) 1 0
count_by-range_more p n = sum_by-range_more (λ x. cond (p x) 1 0) n

-- ---- sums of sums

pub sum_by-swap : {X Y : Type 0} (f : X → Y → ℕ) (xs : List X) (ys : List Y)
    → sum_by (λ x. sum_by (f x) ys) xs ≡ sum_by (λ y. sum_by (λ x. f x y) xs) ys
sum_by-swap f [] ys = sym (sum_by-zeros (λ y. 0) ys (λ k d within. refl))
sum_by-swap f (x ∷ xs) ys =
    sum_by-cons (λ z. sum_by (f z) ys) x xs ∙ ap (λ n. sum_by (f x) ys + n) (sum_by-swap f xs ys)
    ∙ sym (sum_by-plus (f x) (λ y. sum_by (λ z. f z y) xs) ys)
    ∙ sym (sum_by-same (λ y. sum_by (λ z. f z y) (x ∷ xs)) (λ y. f x y + sum_by (λ z. f z y) xs) ys (λ k d within. sum_by-cons (λ z. f z (get_or ys k d)) x xs))

-- one place below n weighs
pub sum_by-one_place : (v place n : ℕ) → place < n → sum_by (λ i. cond (eqb place i) v 0) (range_with_len 0 n) ≡ v
sum_by-one_place v place zero within = absurd (omega arith)
sum_by-one_place v place (suc n) within =
    let one_more : suc n ≡ n + 1 = omega arith in
    ap (λ m. sum_by (λ i. cond (eqb place i) v 0) (range_with_len 0 m)) one_more
    ∙ sum_by-range_more (λ i. cond (eqb place i) v 0) n ∙ ⊎_elim
    (λ (here : (eqb place n ≡ true) × (place ≡ n)). omega (arith, ap (λ b. cond b v 0) here.0, before here.1))
    (λ (apart : (eqb place n ≡ false) × (place ≢ n)). omega (arith, ap (λ b. cond b v 0) apart.0, sum_by-one_place v place n (omega (arith, apart.1))))
    (eqb_tells place n)
  where
    before : place ≡ n → sum_by (λ i. cond (eqb place i) v 0) (range_with_len 0 n) ≡ 0
    before is = sum_by-zeros (λ i. cond (eqb place i) v 0) (range_with_len 0 n) (All-range (λ i. cond (eqb place i) v 0 ≡ 0) 0 n (λ i low high. ap (λ b. cond b v 0) (ne_eqb place i (λ same. omega arith))))

-- a list that is dealt out to n parts weighs what its parts weigh together
pub sum_by-parts : {X : Type 0} (f part : X → ℕ) (n : ℕ) (xs : List X) → All (λ x. part x < n) xs
    → sum_by (λ i. sum_by f (filter (λ x. eqb (part x) i) xs)) (range_with_len 0 n) ≡ sum_by f xs
sum_by-parts f part n xs below =
    sum_by-same (λ i. sum_by f (filter (λ x. eqb (part x) i) xs)) (λ i. sum_by (λ x. cond (eqb (part x) i) (f x) 0) xs) (range_with_len 0 n) (λ k d within. sum_by-filter f (λ x. eqb (part x) (get_or (range_with_len 0 n) k d)) xs)
    ∙ sum_by-swap (λ i x. cond (eqb (part x) i) (f x) 0) (range_with_len 0 n) xs
    ∙ sum_by-same (λ x. sum_by (λ i. cond (eqb (part x) i) (f x) 0) (range_with_len 0 n)) f xs (λ k d within. sum_by-one_place (f (get_or xs k d)) (part (get_or xs k d)) n (below k d within))
