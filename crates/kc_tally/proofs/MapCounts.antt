-- The counts of a finite map: what a new count at a key does to their sums and bins.
use Rattle.std.proofs.Common.{◌≡◌, ℕ, suc, ◌+◌, Bool, true, false, ◌&&◌, cond, List, [], ◌∷◌, map, length, Option, Some, None, sum_by, refl, ap, arith}
use Rattle.std.specs.Prelude.{unwrap_or, is_some}
use lib.Dec.{T}
use Rattle.std.specs.Option.{option_map_or}
use Rattle.std.specs.Ordering.{nat_cmp, is_eq}
use Rattle.std.specs.declared.cmp.Ordering.{Ordering}
use Rattle.std.specs.declared.cmp.Ordering.TheVariants.{Less, Equal, Greater}
use Rattle.std.specs.FinMap.{FinMap, get, insert, values, entries, entries_sorted, entries-insert, get-entries}
use Rattle.std.specs.FinMap.Entries.{put, find, by_order, is_sorted, below_all, length-put}
use Rattle.std.proofs.lemmas.Cmp.{nat_cmp_total}
use Rattle.std.proofs.lemmas.List.Sums.{sum_by-cons}
use Rattle.kc_tally.specs.Histogram.{bins_of, raised}
use Rattle.kc_tally.proofs.Bins.{bins_of-raised, bins_of-new, bins_of-same}

second : (a b : Bool) → T (a && b) → T b
second true b h = h
second false b h = absurd h

no_value : (found : Option ℕ) (n : ℕ) → suc n ≡ cond (is_some found) n (n + 1) → found ≡ None
no_value None n e = refl
no_value (Some v) n e = absurd (omega (arith, e))

-- the sum of the values, under any weights, after a key gets a value
sum_by-put : (h : ℕ → ℕ) (k v : ℕ) (es : List (ℕ × ℕ)) → T (is_sorted nat_cmp es) → sum_by h (map (λ e. e.1) (put nat_cmp k v es)) + option_map_or h (find nat_cmp k es) 0 ≡ sum_by h (map (λ e. e.1) es) + h v
sum_by-put h k v [] sorted = let one = sum_by-cons h v [] in omega (arith, one)
sum_by-put h k v (e ∷ es) sorted =
    by (nat_cmp k e.0) (length-put nat_cmp nat_cmp_total k v (e ∷ es) sorted) (sum_by-put h k v es (second (below_all nat_cmp e.0 es) (is_sorted nat_cmp es) sorted))
  where
    here : ℕ
    here = sum_by h (map (λ (e : ℕ × ℕ). e.1) es)

    by : (o : Ordering)
        → length (by_order o ((k, v) ∷ e ∷ es) ((e.0, v) ∷ es) (e ∷ put nat_cmp k v es)) ≡ cond (is_some (cond (is_eq o) (Some e.1) (find nat_cmp k es))) (suc (length es)) (suc (length es) + 1)
        → sum_by h (map (λ e. e.1) (put nat_cmp k v es)) + option_map_or h (find nat_cmp k es) 0 ≡ sum_by h (map (λ e. e.1) es) + h v
        → sum_by h (map (λ e. e.1) (by_order o ((k, v) ∷ e ∷ es) ((e.0, v) ∷ es) (e ∷ put nat_cmp k v es))) + option_map_or h (cond (is_eq o) (Some e.1) (find nat_cmp k es)) 0 ≡ sum_by h (e.1 ∷ map (λ e. e.1) es) + h v
    by Less long rest =
        let none = ap (λ found. option_map_or h found 0) (no_value (find nat_cmp k es) (suc (length es)) long) in
        let first = sum_by-cons h v (e.1 ∷ map (λ (e : ℕ × ℕ). e.1) es) in
        omega (arith, none, first)
    by Equal long rest =
        let old = sum_by-cons h e.1 (map (λ (e : ℕ × ℕ). e.1) es) in
        let new = sum_by-cons h v (map (λ (e : ℕ × ℕ). e.1) es) in
        omega (arith, old, new)
    by Greater long rest =
        let old = sum_by-cons h e.1 (map (λ (e : ℕ × ℕ). e.1) es) in
        let new = sum_by-cons h e.1 (map (λ (e : ℕ × ℕ). e.1) (put nat_cmp k v es)) in
        omega (arith, old, new, rest)

-- the sum of a map's counts, under any weights, after a key gets a count
pub sum_by-insert : (h : ℕ → ℕ) (m : FinMap nat_cmp ℕ) (key count : ℕ) → sum_by h (values (insert m key count)) + option_map_or h (get m key) 0 ≡ sum_by h (values m) + h count
sum_by-insert h m key count =
    let put_ = ap (λ es. sum_by h (map (λ (e : ℕ × ℕ). e.1) es)) (entries-insert nat_cmp_total m key count) in
    let found = ap (λ o. option_map_or h o 0) (get-entries m key) in
    let sums = sum_by-put h key count (entries m) (entries_sorted m) in
    omega (arith, put_, found, sums)

-- a key's count is one more than before, or 1 if it had none: two bins move
pub bins_of-one_more : (m : FinMap nat_cmp ℕ) (key : ℕ) → raised (bins_of (values m)) (unwrap_or (get m key) 0) ≡ bins_of (values (insert m key (unwrap_or (get m key) 0 + 1)))
bins_of-one_more m key = by (get m key) (λ h count. sum_by-insert h m key count)
  where
    by : (found : Option ℕ) → ((h : ℕ → ℕ) (count : ℕ) → sum_by h (values (insert m key count)) + option_map_or h found 0 ≡ sum_by h (values m) + h count)
        → raised (bins_of (values m)) (unwrap_or found 0) ≡ bins_of (values (insert m key (unwrap_or found 0 + 1)))
    by None sums = bins_of-new (values m) (values (insert m key 1)) (λ h. let step = sums h 1 in omega (arith, step))
    by (Some count) sums = bins_of-raised (values m) (values (insert m key (count + 1))) count (λ h. sums h (count + 1))

-- a key that had no count is stored with a count of 0: no bin moves
pub bins_of-readied : (m : FinMap nat_cmp ℕ) (key : ℕ) → get m key ≡ None → bins_of (values (insert m key 0)) ≡ bins_of (values m)
bins_of-readied m key none =
    bins_of-same (values (insert m key 0)) (values m) (λ h zero_.
    let sums = sum_by-insert h m key 0 in let found = ap (λ o. option_map_or h o 0) none in omega (arith, sums, found, zero_))
