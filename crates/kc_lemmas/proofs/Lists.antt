-- Lists made from lists: parts, maps, filters, lists of lists and ranges, and their elements.
use Rattle.std.proofs.Common.{◌≡◌, ◌≢◌, ℕ, zero, suc, ◌+◌, ◌-◌, ◌<◌, ◌≤◌, ◌⊎◌, inl, inr, List, [], ◌∷◌, ◌++◌, length}
use Rattle.std.proofs.Common.{get_or, map, take, drop, set, Bool, true, false, ◌&&◌, cond, Option, Some, None, filter}
use Rattle.std.proofs.Common.{filter_map, option_to_list, slice_get, All, Contains, refl, sym, ap, subst, ◌∙◌, ⊎_elim}
use Rattle.std.proofs.Common.{arith, append-nil}
use Rattle.std.specs.List.{cons_option, flat_map, list_all, range_with_len}
use Rattle.std.specs.List.Sorted.{IsStrictlyIncreasing}
use Rattle.std.specs.Prelude.{MatchOption}
use Rattle.std.proofs.lemmas.Bool.{cases_lt}
use Rattle.std.proofs.lemmas.List.{get_or_append_left, get_or_push, length_push, map-id, take_at, take_more}
use Rattle.std.proofs.lemmas.List.Concat.{flat_map-append}
use Rattle.std.proofs.lemmas.List.Elements.{All-append, All-cons, All-head, All-nil, All-tail, Contains-append_cases}
use Rattle.std.proofs.lemmas.List.Elements.{Contains-append_left, Contains-append_right, filter-append}
use Rattle.std.proofs.lemmas.List.Elements.{filter_map-append}
use Rattle.std.proofs.lemmas.List.FromFn.{map-range_with_len_more}

-- ---- parts

pub take-append : {X : Type 0} (n : ℕ) (xs ys : List X) → take n (xs ++ ys) ≡ take n xs ++ take (n - length xs) ys
take-append zero xs ys = ap (λ m. take m ys) zeros
  where
    zeros : 0 ≡ 0 - length xs
    zeros = omega arith
take-append (suc n) [] ys = ap (λ m. take m ys) same
  where
    same : suc n ≡ suc n - 0
    same = omega arith
take-append (suc n) (x ∷ xs) ys = ap (λ zs. x ∷ zs) (take-append n xs ys) ∙ ap (λ m. x ∷ (take n xs ++ take m ys)) same
  where
    same : n - length xs ≡ suc n - suc (length xs)
    same = omega arith

pub drop-append : {X : Type 0} (n : ℕ) (xs ys : List X) → drop n (xs ++ ys) ≡ drop n xs ++ drop (n - length xs) ys
drop-append zero xs ys = ap (λ m. xs ++ drop m ys) zeros
  where
    zeros : 0 ≡ 0 - length xs
    zeros = omega arith
drop-append (suc n) [] ys = ap (λ m. drop m ys) same
  where
    same : suc n ≡ suc n - 0
    same = omega arith
drop-append (suc n) (x ∷ xs) ys = drop-append n xs ys ∙ ap (λ m. drop n xs ++ drop m ys) same
  where
    same : n - length xs ≡ suc n - suc (length xs)
    same = omega arith

-- all but the last
pub front-push : {X : Type 0} (xs : List X) (x : X) → take (length (xs ++ x ∷ []) - 1) (xs ++ x ∷ []) ≡ xs
front-push xs x =
    let one : length (xs ++ x ∷ []) - 1 ≡ length xs = omega (arith, length_push xs x) in
    ap (λ n. take n (xs ++ x ∷ [])) one ∙ take_at xs (x ∷ []) (length xs) refl

and_both : (a b : Bool) → (a && b) ≡ true → (a ≡ true) × (b ≡ true)
and_both true b is = (refl, is)
and_both false b is = (is, absurd (cc))

pub list_all-take : {X : Type 0} (p : X → Bool) (n : ℕ) (xs : List X) → list_all p xs ≡ true
    → list_all p (take n xs) ≡ true
list_all-take p zero xs all = refl
list_all-take p (suc n) [] all = refl
list_all-take p (suc n) (x ∷ xs) all =
    let (here, rest) = and_both (p x) (list_all p xs) all in
    ap (λ b. b && list_all p (take n xs)) here ∙ list_all-take p n xs rest

pub list_all-drop : {X : Type 0} (p : X → Bool) (n : ℕ) (xs : List X) → list_all p xs ≡ true
    → list_all p (drop n xs) ≡ true
list_all-drop p zero xs all = all
list_all-drop p (suc n) [] all = refl
list_all-drop p (suc n) (x ∷ xs) all = list_all-drop p n xs (and_both (p x) (list_all p xs) all).1

pub slice_get-set_same : {X : Type 0} (xs : List X) (k : ℕ) (x : X) → k < length xs → slice_get (set xs k x) k ≡ Some x
slice_get-set_same [] k x within = absurd (omega arith)
slice_get-set_same (y ∷ ys) zero x within = refl
slice_get-set_same (y ∷ ys) (suc k) x within = slice_get-set_same ys k x (omega arith)

pub slice_get-set_other : {X : Type 0} (xs : List X) (k j : ℕ) (x : X) → j ≢ k
    → slice_get (set xs k x) j ≡ slice_get xs j
slice_get-set_other [] k j x apart = refl
slice_get-set_other (y ∷ ys) zero zero x apart = absurd (apart refl)
slice_get-set_other (y ∷ ys) zero (suc j) x apart = refl
slice_get-set_other (y ∷ ys) (suc k) zero x apart = refl
slice_get-set_other (y ∷ ys) (suc k) (suc j) x apart = slice_get-set_other ys k j x (λ same. apart (ap suc same))

-- a greater number at the end
pub IsStrictlyIncreasing-push : (xs : List ℕ) (y : ℕ) → IsStrictlyIncreasing xs → All (λ x. x < y) xs
    → IsStrictlyIncreasing (xs ++ y ∷ [])
IsStrictlyIncreasing-push xs y rising below k within =
    let long = length_push xs y in
    let inside : k < length xs = omega (arith, long, within) in
    let here = get_or_append_left xs (y ∷ []) 0 k inside in
    ⊎_elim
    (λ l. omega (arith, here, get_or_append_left xs (y ∷ []) 0 (k + 1) l, rising k l))
    (λ l. omega (arith, here, get_or_push xs y 0 (k + 1) (omega (arith, inside, l)), below k 0 inside))
    (cases_lt (k + 1) (length xs))

-- ---- the same function at each element

pub map-same : {X Y : Type 0} (f g : X → Y) (xs : List X) → All (λ x. f x ≡ g x) xs → map f xs ≡ map g xs
map-same f g [] same = refl
map-same f g (x ∷ xs) same =
    ap (λ y. y ∷ map f xs) (All-head (λ z. f z ≡ g z) x xs same)
    ∙ ap (λ ys. g x ∷ ys) (map-same f g xs (All-tail (λ z. f z ≡ g z) x xs same))

pub filter-same : {X : Type 0} (p q : X → Bool) (xs : List X) → All (λ x. p x ≡ q x) xs → filter p xs ≡ filter q xs
filter-same p q [] same = refl
filter-same p q (x ∷ xs) same =
    ap (λ b. cond b (x ∷ filter p xs) (filter p xs)) (All-head (λ z. p z ≡ q z) x xs same)
    ∙ ap (λ rest. cond (q x) (x ∷ rest) rest) (filter-same p q xs (All-tail (λ z. p z ≡ q z) x xs same))

pub filter_map-same : {X Y : Type 0} (f g : X → Option Y) (xs : List X) → All (λ x. f x ≡ g x) xs
    → filter_map f xs ≡ filter_map g xs
filter_map-same f g [] same = refl
filter_map-same f g (x ∷ xs) same =
    ap (λ o. cons_option o (filter_map f xs)) (All-head (λ z. f z ≡ g z) x xs same)
    ∙ ap (cons_option (g x)) (filter_map-same f g xs (All-tail (λ z. f z ≡ g z) x xs same))

pub flat_map-same : {X Y : Type 0} (f g : X → List Y) (xs : List X) → All (λ x. f x ≡ g x) xs
    → flat_map f xs ≡ flat_map g xs
flat_map-same f g [] same = refl
flat_map-same f g (x ∷ xs) same =
    ap (λ ys. ys ++ flat_map f xs) (All-head (λ z. f z ≡ g z) x xs same)
    ∙ ap (λ ys. g x ++ ys) (flat_map-same f g xs (All-tail (λ z. f z ≡ g z) x xs same))

-- ---- one after the other

pub filter_map-map : {X Y Z : Type 0} (f : Y → Option Z) (g : X → Y) (xs : List X)
    → filter_map f (map g xs) ≡ filter_map (λ x. f (g x)) xs
filter_map-map f g [] = refl
filter_map-map f g (x ∷ xs) = ap (cons_option (f (g x))) (filter_map-map f g xs)

pub filter_map-flat_map : {X Y Z : Type 0} (f : Y → Option Z) (g : X → List Y) (xs : List X)
    → filter_map f (flat_map g xs) ≡ flat_map (λ x. filter_map f (g x)) xs
filter_map-flat_map f g [] = refl
filter_map-flat_map f g (x ∷ xs) =
    filter_map-append f (g x) (flat_map g xs) ∙ ap (λ zs. filter_map f (g x) ++ zs) (filter_map-flat_map f g xs)

pub filter-flat_map : {X Y : Type 0} (p : Y → Bool) (g : X → List Y) (xs : List X)
    → filter p (flat_map g xs) ≡ flat_map (λ x. filter p (g x)) xs
filter-flat_map p g [] = refl
filter-flat_map p g (x ∷ xs) =
    filter-append p (g x) (flat_map g xs) ∙ ap (λ ys. filter p (g x) ++ ys) (filter-flat_map p g xs)

pub flat_map-flat_map : {X Y Z : Type 0} (f : Y → List Z) (g : X → List Y) (xs : List X)
    → flat_map f (flat_map g xs) ≡ flat_map (λ x. flat_map f (g x)) xs
flat_map-flat_map f g [] = refl
flat_map-flat_map f g (x ∷ xs) =
    flat_map-append f (g x) (flat_map g xs) ∙ ap (λ zs. flat_map f (g x) ++ zs) (flat_map-flat_map f g xs)

pub filter_map-one : {X Y : Type 0} (f : X → Option Y) (x : X) → filter_map f (x ∷ []) ≡ option_to_list (f x)
filter_map-one f x = by (f x)
  where
    by : {Y : Type 0} (o : Option Y) → cons_option o [] ≡ option_to_list o
    by None = refl
    by (Some y) = refl

pub length-filter_map : {X Y : Type 0} (f : X → Option Y) (xs : List X) → length (filter_map f xs) ≤ length xs
length-filter_map f [] = omega arith
length-filter_map f (x ∷ xs) = omega (arith, by (f x) (filter_map f xs), length-filter_map f xs)
  where
    by : {Y : Type 0} (o : Option Y) (ys : List Y) → length (cons_option o ys) ≤ length ys + 1
    by None ys = omega arith
    by (Some y) ys = omega arith

-- a loop's step: one more of the parts that are joined
pub flat_map_take_more : {X Y : Type 0} (f : X → List Y) (xs : List X) (k : ℕ) (d : X) → k < length xs
    → flat_map f (take (k + 1) xs) ≡ flat_map f (take k xs) ++ f (get_or xs k d)
flat_map_take_more f xs k d within =
    ap (flat_map f) (take_more xs k d within) ∙ flat_map-append f (take k xs) (get_or xs k d ∷ [])
    ∙ ap (λ ys. flat_map f (take k xs) ++ ys) (append-nil (f (get_or xs k d)))

-- ---- ranges

pub All-range : (P : ℕ → Type 0) (a n : ℕ) → ((x : ℕ) → a ≤ x → x < a + n → P x) → All P (range_with_len a n)
All-range P a zero each = All-nil P
All-range P a (suc n) each =
    All-cons P a (range_with_len (a + 1) n) (each a (omega arith) (omega arith)) (All-range P (a + 1) n (λ x low high. each x (omega arith) (omega arith)))

pub range_more : (n : ℕ) → range_with_len 0 (n + 1) ≡ range_with_len 0 n ++ n ∷ []
range_more n =
    sym (map-id (range_with_len 0 (n + 1))) ∙ map-range_with_len_more (λ (x : ℕ). x) 0 n n (omega arith)
    ∙ ap (λ (xs : List ℕ). xs ++ n ∷ []) (map-id (range_with_len 0 n))

pub flat_map-range_more : {X : Type 0} (f : ℕ → List X) (n : ℕ)
    → flat_map f (range_with_len 0 (n + 1)) ≡ flat_map f (range_with_len 0 n) ++ f n
flat_map-range_more f n =
    ap (flat_map f) (range_more n) ∙ flat_map-append f (range_with_len 0 n) (n ∷ [])
    ∙ ap (λ ys. flat_map f (range_with_len 0 n) ++ ys) (append-nil (f n))

-- ---- the elements of a list

pub All-flat_map : {X Y : Type 0} (P : Y → Type 0) (f : X → List Y) (xs : List X) → All (λ x. All P (f x)) xs
    → All P (flat_map f xs)
All-flat_map P f [] each = All-nil P
All-flat_map P f (x ∷ xs) each =
    All-append P (f x) (flat_map f xs) (All-head (λ y. All P (f y)) x xs each) (All-flat_map P f xs (All-tail (λ y. All P (f y)) x xs each))

pub All-filter_map : {X Y : Type 0} (P : Y → Type 0) (f : X → Option Y) (xs : List X)
    → All (λ x. MatchOption (f x) (Unit {0}) P) xs → All P (filter_map f xs)
All-filter_map P f [] each = All-nil P
All-filter_map {X} {Y} P f (x ∷ xs) each =
    by (f x) (filter_map f xs) (All-head (λ y. MatchOption (f y) (Unit {0}) P) x xs each) (All-filter_map P f xs (All-tail (λ y. MatchOption (f y) (Unit {0}) P) x xs each))
  where
    by : (o : Option Y) (ys : List Y) → MatchOption o (Unit {0}) P → All P ys → All P (cons_option o ys)
    by None ys here rest = rest
    by (Some y) ys here rest = All-cons P y ys here rest

pub Contains-cons : {X : Type 0} (xs : List X) (x y : X) → Contains xs x → Contains (y ∷ xs) x
Contains-cons xs x y (k, within, is) = (suc k, omega arith, is)

pub Contains-cons_cases : {X : Type 0} (xs : List X) (x y : X) → Contains (y ∷ xs) x → (y ≡ x) ⊎ Contains xs x
Contains-cons_cases xs x y (zero, within, is) = inl is
Contains-cons_cases xs x y (suc k, within, is) = inr (k, omega arith, is)

pub Contains-filter : {X : Type 0} (p : X → Bool) (xs : List X) (x : X) → p x ≡ true → Contains xs x
    → Contains (filter p xs) x
Contains-filter p [] x passes (k, within, is) = absurd (omega arith)
Contains-filter {X} p (y ∷ ys) x passes stands = ⊎_elim
    (λ (here : y ≡ x). first (p y) (ap p here ∙ passes) here)
    (λ (later : Contains ys x). kept (p y) (Contains-filter p ys x passes later))
    (Contains-cons_cases ys x y stands)
  where
    kept : (b : Bool) → Contains (filter p ys) x → Contains (cond b (y ∷ filter p ys) (filter p ys)) x
    kept true later = Contains-cons (filter p ys) x y later
    kept false later = later

    first : (b : Bool) → b ≡ true → y ≡ x → Contains (cond b (y ∷ filter p ys) (filter p ys)) x
    first true is here = (0, omega arith, here)
    first false is here = absurd (cc)

pub Contains-map : {X Y : Type 0} (f : X → Y) (xs : List X) (x : X) → Contains xs x → Contains (map f xs) (f x)
Contains-map f [] x (k, within, is) = absurd (omega arith)
Contains-map f (y ∷ ys) x stands = ⊎_elim
    (λ (here : y ≡ x). (0, omega arith, ap f here))
    (λ (later : Contains ys x). Contains-cons (map f ys) (f x) (f y) (Contains-map f ys x later))
    (Contains-cons_cases ys x y stands)

pub Contains-flat_map : {X Y : Type 0} (f : X → List Y) (xs : List X) (x : X) (y : Y) → Contains xs x → Contains (f x) y
    → Contains (flat_map f xs) y
Contains-flat_map f [] x y (k, within, is) inside = absurd (omega arith)
Contains-flat_map {X} {Y} f (z ∷ zs) x y stands inside = ⊎_elim
    (λ (here : z ≡ x). Contains-append_left (f z) (flat_map f zs) y (subst (λ (w : X). Contains (f w) y) (sym here) inside))
    (λ (later : Contains zs x). Contains-append_right (f z) (flat_map f zs) y (Contains-flat_map f zs x y later inside))
    (Contains-cons_cases zs x z stands)

-- an element of joined parts is in one of them
pub Contains-flat_map_cases : {X Y : Type 0} (f : X → List Y) (xs : List X) (y : Y) → Contains (flat_map f xs) y
    → (x : X) × Contains xs x × Contains (f x) y
Contains-flat_map_cases f [] y (k, within, is) = absurd (omega arith)
Contains-flat_map_cases f (x ∷ xs) y stands = ⊎_elim
    (λ (here : Contains (f x) y). (x, (0, omega arith, refl), here))
    (λ (later : Contains (flat_map f xs) y). let (z, place, inside) = Contains-flat_map_cases f xs y later in (z, Contains-cons xs z x place, inside))
    (Contains-append_cases (f x) (flat_map f xs) y stands)
