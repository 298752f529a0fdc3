-- The finite map of a list of entries: what it finds, what one more entry does to it, and its rows.
use Rattle.std.proofs.Common.{◌≡◌, ◌≢◌, ◌∙◌, ℕ, ◌+◌, ◌-◌, ◌<◌, ◌≤◌, ◌^◌, Bool, true, false, cond, List, [], ◌∷◌, Some, None}
use Rattle.std.proofs.Common.{Option, All, Contains, filter, nat_eq, nat_lt, nat_cmp, is_eq, get_or, unwrap_or, refl}
use Rattle.std.proofs.Common.{sym, ap, subst, subst₂, arith, IsSome, is_some, inl, inr, slice_get, Result, Ok, Err}
use Rattle.std.proofs.Common.{IfOk}
use Rattle.std.specs.List.Sorted.{IsStrictlySortedBy}
use Rattle.std.proofs.lemmas.Map.Keys.{IsDistinct-from_sorted}
use Rattle.std.proofs.lemmas.Grind.{common_steps}
use Rattle.std.specs.Ordering.{eq_by_cmp}
use Rattle.std.specs.BTreeMap.{is_at}
use Rattle.std.specs.Map.{lookup, keys_of, set_value}
use Rattle.std.proofs.lemmas.Map.{lookup-set_value}
use Rattle.std.specs.List.{IsDistinct}
use Rattle.std.proofs.lemmas.Cmp.{nat_cmp_total, eq_by_cmp_equiv}
use Rattle.std.proofs.lemmas.Map.Made.{IsDistinct-keys_filter}
use Rattle.std.proofs.lemmas.Map.Entries.{lookup_from_place, place_from_lookup}
use Rattle.std.proofs.lemmas.List.Elements.{All-filter, All-contains, filter_passes}
use Rattle.std.proofs.lemmas.Option.{get_or_from_slice_get, slice_get-get_or, slice_get_within}
use Rattle.std.proofs.lemmas.Bool.{cases_eq, eqb-true}
use Rattle.std.specs.FinMap.{get, insert, from_entries, find, contains_key, empty, len, len-insert, get-from_entries}
use Rattle.std.specs.FinMap.{get-insert, get-empty, same_map, nat_cmp-IsAntisymmetric}
use Rattle.kc_lemmas.proofs.Lists.{Contains-filter}
use Rattle.kc_table.specs.Counts.{KeyCounts, AreRowsOf, IsWithin, count_at, readied, added, reduced, IsStored}

abbrev pub Entries : Type 0
Entries = List (ℕ × ℕ)

-- whether two keys are the same, as an order tests it and as `==` does
pub eq_by_cmp-nat : (x y : ℕ) → eq_by_cmp nat_cmp x y ≡ nat_eq x y
eq_by_cmp-nat x y = grind (arith, common_steps)

pub find-lookup : (q : ℕ) (es : Entries) → find nat_cmp q es ≡ lookup (is_at (nat_cmp q)) es
find-lookup q [] = refl
find-lookup q (e ∷ es) = ap (cond (is_eq (nat_cmp q e.0)) (Some e.1)) (find-lookup q es)

pub get-entries : (es : Entries) (q : ℕ) → get (from_entries {R = nat_cmp} es) q ≡ lookup (is_at (nat_cmp q)) es
get-entries es q = get-from_entries nat_cmp_total es q ∙ find-lookup q es

-- two maps are equal if they return the same
pub same_counts : (m n : KeyCounts) → ((q : ℕ) → get m q ≡ get n q) → m ≡ n
same_counts m n = same_map nat_cmp_total nat_cmp-IsAntisymmetric m n

pub get-insert_same : (m : KeyCounts) (k v : ℕ) → get (insert m k v) k ≡ Some v
get-insert_same m k v =
    get-insert nat_cmp_total m k v k
    ∙ ap (λ b. cond b (Some v) (get {R = nat_cmp} m k)) ((eq_by_cmp_equiv nat_cmp_total).refl k)

pub eq_by_cmp_apart : (q k : ℕ) → q ≢ k → eq_by_cmp nat_cmp q k ≡ false
eq_by_cmp_apart q k apart = eq_by_cmp-nat q k ∙ grind (arith, common_steps)

pub get-insert_other : (m : KeyCounts) (k v q : ℕ) → q ≢ k → get (insert m k v) q ≡ get m q
get-insert_other m k v q apart =
    get-insert nat_cmp_total m k v q ∙ ap (λ b. cond b (Some v) (get {R = nat_cmp} m q)) (eq_by_cmp_apart q k apart)

-- the entries after one change, by key
pub counts_updated : (es fs : Entries) (k v : ℕ)
    → ((q : ℕ) → lookup (is_at (nat_cmp q)) fs ≡ cond (is_at (nat_cmp k) q) (Some v) (lookup (is_at (nat_cmp q)) es))
    → from_entries {R = nat_cmp} fs ≡ insert (from_entries es) k v
counts_updated es fs k v h =
    same_counts _ _ (λ q. get-entries fs q ∙ h q ∙ sym (get-insert nat_cmp_total (from_entries es) k v q
    ∙ ap (λ b. cond b (Some v) (get {R = nat_cmp} (from_entries es) q)) ((eq_by_cmp_equiv nat_cmp_total).symm q k)
    ∙ ap (cond (is_at (nat_cmp k) q) (Some v)) (get-entries es q)))

pub IsWithin-insert : (bits : ℕ) (m : KeyCounts) (k v : ℕ) → k < 2 ^ bits → IsWithin bits m
    → IsWithin bits (insert m k v)
IsWithin-insert bits m k v below within q stored = elim (cases_eq q k) [
  | inl same ↦ subst (λ n. n < 2 ^ bits) (sym same) below
  | inr apart ↦ within q (ap is_some (sym (get-insert_other m k v q apart)) ∙ stored)
]

pub IsWithin-empty : (bits : ℕ) → IsWithin bits empty
IsWithin-empty bits q stored = absurd (let never : false ≡ true = sym (ap is_some (get-empty nat_cmp q)) ∙ stored in cc)

-- a stored key, by cases on what is found
pub readied_stored : (m : KeyCounts) (k v : ℕ) → get m k ≡ Some v → readied m k ≡ m
readied_stored m k v is = ap (λ o. cond (is_some o) m (insert m k 0)) is

pub readied_new : (m : KeyCounts) (k : ℕ) → get m k ≡ None → readied m k ≡ insert m k 0
readied_new m k is = ap (λ o. cond (is_some o) m (insert m k 0)) is

-- a new key that is counted
pub told_new : (m : KeyCounts) (k : ℕ) → get m k ≡ None → 1 ≡ count_at m k + 1
told_new m k is = sym (ap (λ o. unwrap_or o 0 + 1) is)

pub added_new : (m : KeyCounts) (k : ℕ) → get m k ≡ None → insert m k 1 ≡ added m k
added_new m k is = sym (ap (λ o. insert m k (unwrap_or o 0 + 1)) is)

-- fs is es with the number v at k
abbrev pub Writes : Entries → Entries → ℕ → ℕ → Type 0
Writes es fs k v =
    (q : ℕ) → lookup (is_at (nat_cmp q)) fs ≡ cond (is_at (nat_cmp k) q) (Some v) (lookup (is_at (nat_cmp q)) es)

pub within_by_write : (bits : ℕ) (es fs : Entries) (k v : ℕ) → k < 2 ^ bits → Writes es fs k v
    → IsWithin bits (from_entries es) → IsWithin bits (from_entries fs)
within_by_write bits es fs k v below writes within =
    subst (IsWithin bits) (sym (counts_updated es fs k v writes))
    (IsWithin-insert bits (from_entries es) k v below within)

pub readied_by_look : (es : Entries) (k : ℕ) → is_some (lookup (is_at (nat_cmp k)) es) ≡ true
    → from_entries es ≡ readied (from_entries es) k
readied_by_look es k is =
    ap (λ b. cond b (from_entries es) (insert (from_entries es) k 0)) (sym (ap is_some (get-entries es k) ∙ is))

pub readied_by_write : (es fs : Entries) (k : ℕ) → is_some (lookup (is_at (nat_cmp k)) es) ≡ false → Writes es fs k 0
    → from_entries fs ≡ readied (from_entries es) k
readied_by_write es fs k is writes =
    counts_updated es fs k 0 writes
    ∙ ap (λ b. cond b (from_entries es) (insert (from_entries es) k 0)) (sym (ap is_some (get-entries es k) ∙ is))

pub added_by_write : (es fs : Entries) (k n : ℕ) → lookup (is_at (nat_cmp k)) es ≡ Some n → Writes es fs k (n + 1)
    → from_entries fs ≡ added (from_entries es) k
added_by_write es fs k n is writes =
    counts_updated es fs k (n + 1) writes
    ∙ ap (λ o. insert (from_entries es) k (unwrap_or o 0 + 1)) (sym (get-entries es k ∙ is))

pub reduced_by_write : (es fs : Entries) (k n : ℕ) → lookup (is_at (nat_cmp k)) es ≡ Some n → Writes es fs k (n - 1)
    → from_entries fs ≡ reduced (from_entries es) k
reduced_by_write es fs k n is writes =
    counts_updated es fs k (n - 1) writes
    ∙ ap (λ o. insert (from_entries es) k (unwrap_or o 0 - 1)) (sym (get-entries es k ∙ is))

pub writes_by_set_value : (es fs : Entries) (k v n : ℕ) → Some n ≡ lookup (is_at (nat_cmp k)) es
    → fs ≡ set_value (is_at (nat_cmp k)) es v → Writes es fs k v
writes_by_set_value es fs k v n found is q =
    let laws = eq_by_cmp_equiv nat_cmp_total in
    ap (lookup (is_at (nat_cmp q))) is
    ∙ lookup-set_value laws (is_at (nat_cmp k)) (λ x y t. laws.congr k x y t) q v es
    (subst (λ (o : Option ℕ). IsSome o) found refl)

-- what a map of entries finds, if it is seen as m
pub counts_found : (es : Entries) (m : KeyCounts) (k : ℕ) → from_entries es ≡ m
    → get m k ≡ lookup (is_at (nat_cmp k)) es
counts_found es m k is = ap (λ (n : KeyCounts). get n k) (sym is) ∙ get-entries es k

pub stored_found : (o : Option ℕ) (m : KeyCounts) (k : ℕ) → IsStored m k → get m k ≡ o → o ≡ None → ⊥
stored_found o m k stored is none = let never : false ≡ true = sym (ap is_some (is ∙ none)) ∙ stored in cc

-- each entry is found by its key
entries_found : (es : Entries) → IsDistinct nat_eq (keys_of es)
    → All (λ e. get {R = nat_cmp} (from_entries es) e.0 ≡ Some e.1) es
entries_found es apart k d h =
    let e : ℕ × ℕ = get_or es k d in
    get-entries es e.0 ∙ lookup_from_place (eq_by_cmp_equiv nat_cmp_total) es k e.0 e.1
    (subst (λ (same : ℕ → ℕ → Bool). IsDistinct same (keys_of es)) (λ i x y. sym (eq_by_cmp-nat x y) i) apart)
    (slice_get-get_or es k d h)

found_entry : (es : Entries) (q n : ℕ) → lookup (is_at (nat_cmp q)) es ≡ Some n → Contains es (q, n)
found_entry es q n is =
    let place = place_from_lookup (is_at (nat_cmp q)) es n is in
    let same : q ≡ place.1 = eqb-true q place.1 (sym (eq_by_cmp-nat q place.1) ∙ place.3) in
    let entry : slice_get es place.0 ≡ Some (q, n) = place.2 ∙ ap (λ k. Some (k, n)) (sym same) in
    (place.0, slice_get_within es place.0 (q, n) entry, get_or_from_slice_get es place.0 (q, n) (q, n) entry)

counted_entry : (es : Entries) (q : ℕ) (found : Option ℕ) → get {R = nat_cmp} (from_entries es) q ≡ found
    → 1 ≤ unwrap_or found 0 → Contains (filter (λ e. nat_lt 0 e.1) es) (q, unwrap_or found 0)
counted_entry es q None is some = absurd (omega arith)
counted_entry es q (Some n) is some =
    Contains-filter (λ e. nat_lt 0 e.1) es (q, n) (grind (arith, common_steps))
    (found_entry es q n (sym (get-entries es q) ∙ is))

-- the rows are the entries whose number is not 0
pub AreRowsOf-filter : (es : Entries) → IsDistinct nat_eq (keys_of es)
    → AreRowsOf (from_entries es) (filter (λ e. nat_lt 0 e.1) es)
AreRowsOf-filter es apart = record {
  once = IsDistinct-keys_filter nat_eq (λ e. nat_lt 0 e.1) es apart;
  told =
      λ k d h. (
        All-filter (λ e. nat_lt 0 e.1) (λ e. get {R = nat_cmp} (from_entries es) e.0 ≡ Some e.1) es
            (entries_found es apart) k d h,
        let passes : nat_lt 0 (get_or (filter (λ e. nat_lt 0 e.1) es) k d).1 ≡ true =
            filter_passes (λ e. nat_lt 0 e.1) es k d h in grind (arith, common_steps),
      );
  complete = λ q some. counted_entry es q (get {R = nat_cmp} (from_entries es) q) refl some;
}

pub rows_within : (bits : ℕ) (m : KeyCounts) (rows : Entries) → AreRowsOf m rows → IsWithin bits m
    → All (λ row. row.0 < 2 ^ bits) rows
rows_within bits m rows are within k d h =
    let row : ℕ × ℕ = get_or rows k d in
    let told : (get m row.0 ≡ Some row.1) × (1 ≤ row.1) = are.told k d h in
    within row.0 (ap is_some told.0)

-- keys in order are apart
pub apart_from_sorted : (ks : List ℕ) → IsStrictlySortedBy nat_cmp ks → IsDistinct nat_eq ks
apart_from_sorted ks sorted =
    subst (λ (same : ℕ → ℕ → Bool). IsDistinct same ks) (λ i x y. eq_by_cmp-nat x y i)
    (IsDistinct-from_sorted nat_cmp ks sorted)

-- what holds for each result that is Ok
pub IfOk-weaker : {T E : Type 0} (P Q : T → Type 0) (r : Result T E) → ((v : T) → P v → Q v) → IfOk r P → IfOk r Q
IfOk-weaker P Q (Ok v) f h = f v h
IfOk-weaker P Q (Err e) f h = tt

-- the rows of the map m of entries whose keys are apart
pub rows_of_entries : (es : Entries) (m : KeyCounts) → from_entries es ≡ m → IsDistinct nat_eq (keys_of es)
    → (rows : Entries) → rows ≡ filter (λ e. nat_lt 0 e.1) es → AreRowsOf m rows
rows_of_entries es m seen apart rows is = subst₂ AreRowsOf seen (sym is) (AreRowsOf-filter es apart)

pub len-readied_new : (m : KeyCounts) (k : ℕ) → contains_key m k ≡ false → len (readied m k) ≡ len m + 1
len-readied_new m k new =
    ap len (ap (λ b. cond b m (insert m k 0)) new) ∙ len-insert nat_cmp_total m k 0
    ∙ ap (λ b. cond b (len m) (len m + 1)) new

pub len-insert_stored : (m : KeyCounts) (k v : ℕ) → IsStored m k → len (insert m k v) ≡ len m
len-insert_stored m k v stored = len-insert nat_cmp_total m k v ∙ ap (λ b. cond b (len m) (len m + 1)) stored

pub stored_by_some : (m : KeyCounts) (k n : ℕ) → get m k ≡ Some n → IsStored m k
stored_by_some m k n is = ap is_some is

-- what it means that a look-up finds nothing
pub stored_by_none : (m : KeyCounts) (k : ℕ) → get m k ≡ None
    → (false ≡ true → IsStored m k) × (IsStored m k → false ≡ true)
stored_by_none m k is = (λ never. absurd (let h : false ≡ true = never in cc), λ stored. sym (ap is_some is) ∙ stored)

pub count_at-some : (m : KeyCounts) (k n : ℕ) → get m k ≡ Some n → count_at m k ≡ n
count_at-some m k n is = ap (λ o. unwrap_or o 0) is

-- what a map is after a key is readied, and after it is counted
pub get-readied_other : (m : KeyCounts) (k q : ℕ) → q ≢ k → get (readied m k) q ≡ get m q
get-readied_other m k q apart =
    elim (contains_key m k) as (λ b. get (cond b m (insert m k 0)) q ≡ get m q)
    [ true ↦ refl | false ↦ get-insert_other m k 0 q apart ]

stored_either : (m : KeyCounts) (k : ℕ) (b : Bool) → contains_key m k ≡ b → IsStored (readied m k) k
stored_either m k true is = ap (λ b. contains_key (cond b m (insert m k 0)) k) is ∙ is
stored_either m k false is = ap (λ b. contains_key (cond b m (insert m k 0)) k) is ∙ ap is_some (get-insert_same m k 0)

pub IsStored-readied : (m : KeyCounts) (k : ℕ) → IsStored (readied m k) k
IsStored-readied m k = stored_either m k (contains_key m k) refl

pub IsStored-readied_other : (m : KeyCounts) (k q : ℕ) → IsStored m q → IsStored (readied m k) q
IsStored-readied_other m k q stored = elim (cases_eq q k) [
  | inl same ↦ ap (contains_key (readied m k)) same ∙ IsStored-readied m k
  | inr apart ↦ ap is_some (get-readied_other m k q apart) ∙ stored
]

count_either : (m : KeyCounts) (k : ℕ) (found : Option ℕ) → get m k ≡ found → count_at (readied m k) k ≡ count_at m k
count_either m k (Some n) is = ap (λ (x : KeyCounts). count_at x k) (readied_stored m k n is)
count_either m k None is =
    ap (λ (x : KeyCounts). count_at x k) (readied_new m k is) ∙ ap (λ o. unwrap_or o 0) (get-insert_same m k 0)
    ∙ sym (ap (λ o. unwrap_or o 0) is)

pub count_at-readied : (m : KeyCounts) (k q : ℕ) → count_at (readied m k) q ≡ count_at m q
count_at-readied m k q = elim (cases_eq q k) [
  | inl same ↦ ap (count_at (readied m k)) same ∙ count_either m k (get m k) refl ∙ ap (count_at m) (sym same)
  | inr apart ↦ ap (λ o. unwrap_or o 0) (get-readied_other m k q apart)
]

pub count_at-added_same : (m : KeyCounts) (k : ℕ) → count_at (added m k) k ≡ count_at m k + 1
count_at-added_same m k = ap (λ o. unwrap_or o 0) (get-insert_same m k (count_at m k + 1))

pub count_at-added_other : (m : KeyCounts) (k q : ℕ) → q ≢ k → count_at (added m k) q ≡ count_at m q
count_at-added_other m k q apart = ap (λ o. unwrap_or o 0) (get-insert_other m k (count_at m k + 1) q apart)

-- a key that is counted after it was readied has the count that it has without
insert-readied : (m : KeyCounts) (k v : ℕ) → insert (readied m k) k v ≡ insert m k v
insert-readied m k v = same_counts _ _ (λ q. elim (cases_eq q k) [
  | inl same ↦ ap (get (insert (readied m k) k v)) same ∙ get-insert_same (readied m k) k v
      ∙ sym (ap (get (insert m k v)) same ∙ get-insert_same m k v)
  | inr apart ↦ get-insert_other (readied m k) k v q apart ∙ get-readied_other m k q apart
      ∙ sym (get-insert_other m k v q apart)
])

pub added-readied : (m : KeyCounts) (k : ℕ) → added (readied m k) k ≡ added m k
added-readied m k =
    ap (λ n. insert (readied m k) k (n + 1)) (count_at-readied m k k) ∙ insert-readied m k (count_at m k + 1)

-- what is asked of a key before it is counted, and what is known after it, if it was readied first
pub room_readied : (m after : KeyCounts) (k n : ℕ) → after ≡ readied m k → count_at m k < n → count_at after k < n
room_readied m after k n is room =
    subst (λ c. c < n) (sym (ap (λ (x : KeyCounts). count_at x k) is ∙ count_at-readied m k k)) room

pub told_readied : (m after : KeyCounts) (k n : ℕ) → after ≡ readied m k → n ≡ count_at after k + 1
    → n ≡ count_at m k + 1
told_readied m after k n is told =
    told ∙ ap (λ c. c + 1) (ap (λ (x : KeyCounts). count_at x k) is ∙ count_at-readied m k k)

pub counted_readied : (m after last : KeyCounts) (k : ℕ) → after ≡ readied m k → last ≡ added after k
    → last ≡ added m k
counted_readied m after last k is counted =
    counted ∙ ap (λ (x : KeyCounts). added x k) is ∙ added-readied m k

-- a key whose count is not 0 is stored
count_found : (m : KeyCounts) (k : ℕ) (found : Option ℕ) → get m k ≡ found → 1 ≤ unwrap_or found 0 → IsStored m k
count_found m k None is some = absurd (omega arith)
count_found m k (Some n) is some = ap is_some is

pub stored_by_count : (m : KeyCounts) (k : ℕ) → 1 ≤ count_at m k → IsStored m k
stored_by_count m k some = count_found m k (get m k) refl some

pub count_at-empty : (q : ℕ) → count_at empty q ≡ 0
count_at-empty q = ap (λ o. unwrap_or o 0) (get-empty nat_cmp q)

-- the rows of a map, read as a map of their own, have the same numbers
count_by_rows : (m : KeyCounts) (rows : Entries) (q : ℕ) (found : Option ℕ) → AreRowsOf m rows
    → get {R = nat_cmp} (from_entries rows) q ≡ found → unwrap_or found 0 ≡ count_at m q
count_by_rows m rows q (Some n) are is =
    let row =
    All-contains (λ row. (get m row.0 ≡ Some row.1) × (1 ≤ row.1)) rows (q, n) are.told
    (found_entry rows q n (sym (get-entries rows q) ∙ is)) in
    sym (count_at-some m q n row.0)
count_by_rows m rows q None are is = elim (cases_eq (count_at m q) 0) [
  | inl none ↦ sym none
  | inr some ↦
      let stored =
      All-contains (λ e. get {R = nat_cmp} (from_entries rows) e.0 ≡ Some e.1) rows (q, count_at m q)
      (entries_found rows are.once) (are.complete q (omega arith)) in
      absurd (let never : ◌≡◌ {A = Option ℕ} None (Some (count_at m q)) = sym is ∙ stored in cc)
]

pub count_at-rows : (m : KeyCounts) (rows : Entries) (q : ℕ) → AreRowsOf m rows
    → count_at (from_entries rows) q ≡ count_at m q
count_at-rows m rows q are = count_by_rows m rows q (get {R = nat_cmp} (from_entries rows) q) are refl
