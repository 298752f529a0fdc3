-- When a key is crowded.
use Rattle.std.proofs.Common.{◌≡◌, ◌≢◌, ◌∙◌, ℕ, zero, suc, ◌+◌, ◌<◌, ◌≤◌, ◌==◌, Bool, true, ◌&&◌, not, List, length}
use Rattle.std.proofs.Common.{map, get_or, refl, sym, ap, subst, arith, zero-add}
use Rattle.std.specs.List.{range_with_len, list_all}
use Rattle.std.proofs.lemmas.Bool.{eq-eqb}
use Rattle.std.proofs.lemmas.Grind.{common_steps}
use Rattle.std.proofs.lemmas.List.Folds.{list_all-map, list_any_at}
use Rattle.std.proofs.lemmas.List.FromFn.{length-range_with_len, length-map-range_with_len, get_or-range_with_len}
use Rattle.std.proofs.lemmas.List.FromFn.{get_or-map-range_with_len}
use Rattle.std.proofs.lemmas.List.Sums.{list_all-from_AllPass}
use Rattle.kc_lemmas.proofs.Lists.{All-range}
use Rattle.kc_table.specs.Counts.{KeyCounts, IsStored}
use Rattle.kc_table.specs.QuotientTable.{IsCrowded, different_places, is_place_of, are_different}
use Rattle.kc_table.specs.Reprobing.{place, IsPlaceOf}
use Rattle.kc_table.specs.Sizes.{place_count}

list_all-range : (p : ℕ → Bool) (n : ℕ) → ((i : ℕ) → i < n → p i ≡ true) → list_all p (range_with_len 0 n) ≡ true
list_all-range p n passes =
    list_all-from_AllPass p (range_with_len 0 n)
    (All-range (λ i. p i ≡ true) 0 n (λ i from below. passes i (omega arith)))

unequal : (x y : ℕ) → x ≢ y → not (x == y) ≡ true
unequal x y apart = grind (arith, common_steps)

is_place_of-from : (log key slot : ℕ) → IsPlaceOf log key slot → is_place_of log key slot ≡ true
is_place_of-from log key slot (i, small, here) =
    let long : length (range_with_len 0 place_count) ≡ place_count = length-range_with_len 0 place_count in
    let at : get_or (range_with_len 0 place_count) i 0 ≡ i =
    get_or-range_with_len 0 place_count i 0 small ∙ zero-add i in
    list_any_at (λ j. slot == place key j log) (range_with_len 0 place_count) i 0 (subst (λ n. i < n) (sym long) small)
    (eq-eqb _ _ (here ∙ ap (λ j. place key j log) (sym at)))

both : (a b : Bool) → a ≡ true → b ≡ true → (a && b) ≡ true
both a b left right = ap (λ c. c && b) left ∙ right

-- different keys, one for each number of a range
are_different-map : (keys : ℕ → ℕ) (a n : ℕ) → ((i j : ℕ) → a ≤ i → i < j → j < a + n → keys i ≢ keys j)
    → are_different (map keys (range_with_len a n)) ≡ true
are_different-map keys a zero apart = refl
are_different-map keys a (suc n) apart =
    both (list_all (λ m. not (keys a == m)) (map keys (range_with_len (a + 1) n)))
    (are_different (map keys (range_with_len (a + 1) n)))
    (list_all-map (λ m. not (keys a == m)) keys (range_with_len (a + 1) n)
    ∙ list_all-from_AllPass (λ j. not (keys a == keys j)) (range_with_len (a + 1) n)
    (All-range (λ j. not (keys a == keys j) ≡ true) (a + 1) n
    (λ j from below. unequal (keys a) (keys j) (apart a j (omega arith) (omega arith) (omega arith)))))
    (are_different-map keys (a + 1) n (λ i j from up below. apart i j (omega arith) up (omega arith)))

-- a crowd as a function: stored keys other than this one, each at another of its places
pub record CrowdAt (counts : KeyCounts) (log key : ℕ) (keys : ℕ → ℕ) : Type 0 where
  pub stored : (i : ℕ) → i < different_places log → IsStored counts (keys i)
  pub apart : (i : ℕ) → i < different_places log → keys i ≢ key
  pub different : (i j : ℕ) → i < different_places log → j < different_places log → keys i ≡ keys j → i ≡ j
  pub meeting : (i : ℕ) → i < different_places log → IsPlaceOf log (keys i) (place key i log)

pub crowded_from : {counts : KeyCounts} {log key : ℕ} {keys : ℕ → ℕ} → CrowdAt counts log key keys → IsCrowded counts log key
crowded_from {counts} {log} {key} {keys} crowd =
    let n = different_places log in
    let others : List ℕ = map keys (range_with_len 0 n) in
    let long : length others ≡ n = length-map-range_with_len keys 0 n in
    let inside : (i : ℕ) → i < length others → i < n = λ i below. subst (λ m. i < m) long below in
    let other : (i d : ℕ) → i < length others → get_or others i d ≡ keys i =
    λ i d below. get_or-map-range_with_len keys 0 n i i d (inside i below) (omega arith) in (
      others,
      record {
        not_the_key =
            list_all-map (λ o. not (o == key)) keys (range_with_len 0 n)
            ∙ list_all-range (λ i. not (keys i == key)) n (λ i below. unequal (keys i) key (crowd.apart i below));
        different =
            are_different-map keys 0 n
            (λ i j from up below same. let one : i ≡ j = crowd.different i j (omega arith) (omega arith) same in
            omega arith);
        as_many = long;
        meeting = list_all-range _ (length others) (λ i below.
            ap (λ o. is_place_of log o (place key i log)) (other i 0 below)
            ∙ is_place_of-from log (keys i) (place key i log) (crowd.meeting i (inside i below)));
      },
      λ i d below. subst (IsStored counts) (sym (other i d below)) (crowd.stored i (inside i below)),
    )

-- a key that is crowded in a part of a map is crowded in the map
pub crowded_wider : (part whole : KeyCounts) (log key : ℕ) → ((k : ℕ) → IsStored part k → IsStored whole k)
    → IsCrowded part log key → IsCrowded whole log key
crowded_wider part whole log key stored (others, crowd, all) =
    (others, crowd, λ i d below. stored (get_or others i d) (all i d below))
