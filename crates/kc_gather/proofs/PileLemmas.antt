-- Items in piles, and what is returned for each pile, joined.
use Rattle.std.proofs.Common.{◌≡◌, ℕ, suc, ◌+◌, ◌-◌, ◌^◌, ◌<◌, List, [], ◌∷◌, ◌++◌, length, get_or, map, min, take, Vec, Global, Result, Ok, append-nil, ap, sym, ◌∙◌, arith}
use Rattle.std.specs.List.{flat_map}
use Rattle.std.proofs.lemmas.List.{length-map, length-append, get_or-map}
use Rattle.std.proofs.lemmas.List.Concat.{flat_map-append}
use Rattle.kc_lemmas.proofs.Lists.{flat_map_take_more}

-- the items of all lists, list after list
abbrev pub all_items : {X : Type 0} → List (Vec X Global) → List X
all_items lists = flat_map (λ list. list.items) lists

pub all_items-push : {X : Type 0} (lists : List (Vec X Global)) (list : Vec X Global) → all_items (lists ++ list ∷ []) ≡ all_items lists ++ list.items
all_items-push {X} lists list =
    flat_map-append (λ (l : Vec X Global). l.items) lists (list ∷ []) ∙ ap (λ xs. all_items lists ++ xs) (append-nil list.items)

-- one list more is counted
pub count-more : {X : Type 0} (lists : List (Vec X Global)) (i : ℕ) (list : Vec X Global) (count more : ℕ) → (i < length lists) × (list ≡ get_or lists i list)
    → count ≡ min (length (all_items (take i lists))) (2 ^ 64 - 1) → more ≡ min (count + length list.items) (2 ^ 64 - 1)
    → more ≡ min (length (all_items (take (i + 1) lists))) (2 ^ 64 - 1)
count-more {X} lists i list count more (within, is) before counted =
    let taken = ap length (flat_map_take_more (λ (l : Vec X Global). l.items) lists i list within) ∙ length-append (all_items (take i lists)) (get_or lists i list).items in
    let same = ap (λ (l : Vec X Global). length l.items) is in
    omega (arith, taken, same, before, counted)

-- a property of lists and their results holds for no items with no results, and for two joined lists with their joined
-- results
pub record Joins {T X : Type 0} (Answers : List T → List X → Type 0) : Type 0 where
  pub none : Answers [] []
  pub both : (xs ys : List T) (us vs : List X) → Answers xs us → Answers ys vs → Answers (xs ++ ys) (us ++ vs)

-- if such a property holds for each pile and its result, it holds for all items and all results
pub in_piles : {T X : Type 0} {Answers : List T → List X → Type 0} → Joins Answers → (piles : List (Vec T Global)) (lists : List (Vec X Global)) → length piles ≡ length lists
    → ((i : ℕ) (pile : Vec T Global) (list : Vec X Global) → i < length piles → Answers (get_or piles i pile).items (get_or lists i list).items)
    → Answers (all_items piles) (all_items lists)
in_piles joins [] [] as_many each = joins.none
in_piles joins [] (list ∷ lists) as_many each = absurd (omega (arith, as_many))
in_piles joins (pile ∷ piles) [] as_many each = absurd (omega (arith, as_many))
in_piles joins (pile ∷ piles) (list ∷ lists) as_many each =
    joins.both pile.items (all_items piles) list.items (all_items lists) (each 0 pile list (omega arith))
    (in_piles joins piles lists (omega (arith, as_many)) (λ i p l within. each (suc i) p l (omega (arith, within))))

-- the results, if memory was refused for none
pub answer-at : {X E : Type 0} (lists : List (Vec X Global)) (answers : List (Result (Vec X Global) E)) → map (λ list. Ok list) lists ≡ answers → (i : ℕ) (list : Vec X Global) → i < length lists
    → get_or answers i (Ok list) ≡ Ok (get_or lists i list)
answer-at {X} {E} lists answers are i list within =
    ap (λ (rs : List (Result (Vec X Global) E)). get_or rs i (Ok list)) (sym are) ∙ get_or-map (λ (l : Vec X Global). Ok l) lists i list (Ok list) within

pub answer-count : {X E : Type 0} (lists : List (Vec X Global)) (answers : List (Result (Vec X Global) E)) → map (λ list. Ok list) lists ≡ answers → length answers ≡ length lists
answer-count {X} {E} lists answers are = ap length (sym are) ∙ length-map lists (λ (l : Vec X Global). Ok l)
