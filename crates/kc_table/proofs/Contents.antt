-- The map in a list of slots: what a look-up finds, and what writing a slot changes.
use Rattle.std.proofs.Common.{◌≡◌, ◌≢◌, ◌∙◌, ℕ, zero, suc, ◌+◌, ◌<◌, ◌≤◌, true, false, cond, List, [], ◌∷◌, ◌++◌}
use Rattle.std.proofs.Common.{length, take, drop, set, Some, Bool, length-append, None, Option, nat_eq, nat_cmp, get_or}
use Rattle.std.proofs.Common.{refl, sym, ap, arith, is_some, slice_get, ◌⊎◌, inl, inr, append-nil, filter, nat_lt}
use Rattle.std.proofs.Common.{take_all}
use Rattle.std.specs.List.{cons_option, IsDistinct, AllByRecursion}
use Rattle.std.specs.BTreeMap.{is_at}
use Rattle.std.specs.Map.{lookup, keys_of}
use Rattle.std.proofs.lemmas.Cmp.{nat_cmp_total, eq_by_cmp_equiv}
use Rattle.std.proofs.lemmas.Bool.{cases_eq}
use Rattle.std.proofs.lemmas.Option.{slice_get_within, get_or_from_slice_get}
use Rattle.std.proofs.lemmas.List.{take_more, take-append-drop}
use Rattle.std.proofs.lemmas.List.Elements.{filter_map-append, filter-append}
use Rattle.std.proofs.lemmas.Grind.{common_steps}
use Rattle.std.specs.FinMap.{get, insert, from_entries, from_entries_push, nat_cmp-IsAntisymmetric}
use Rattle.kc_lemmas.proofs.Lists.{slice_get-set_same, slice_get-set_other}
use Rattle.kc_table.specs.Counts.{IsStored}
use Rattle.kc_table.specs.QuotientTable.{SlotList, entries_in, counts_in, Holds}
use Rattle.kc_table.proofs.KeyCounts.{eq_by_cmp_apart, get-entries, same_counts, get-insert_same, get-insert_other}
use Rattle.kc_table.proofs.KeyCounts.{find-lookup}

pub at_self : (k : ℕ) → is_at (nat_cmp k) k ≡ true
at_self k = (eq_by_cmp_equiv nat_cmp_total).refl k

pub at_other : (q k : ℕ) → q ≢ k → is_at (nat_cmp q) k ≡ false
at_other q k apart = eq_by_cmp_apart q k apart

-- no two slots have the same key
abbrev pub Apart : SlotList → Type 0
Apart slots = (s t k m n : ℕ) → Holds slots s k m → Holds slots t k n → s ≡ t

abbrev pub IsNowhere : SlotList → ℕ → Type 0
IsNowhere slots k = (t m : ℕ) → Holds slots t k m → ⊥

-- the slot is empty, or has this key already
abbrev pub IsOpenTo : SlotList → ℕ → ℕ → Type 0
IsOpenTo slots s k = (slice_get slots s ≡ Some None) ⊎ ((m : ℕ) × Holds slots s k m)

pub lookup_held : (slots : SlotList) (k n s : ℕ) → Holds slots s k n → ((t m : ℕ) → t < s → Holds slots t k m → ⊥)
    → lookup (is_at (nat_cmp k)) (entries_in slots) ≡ Some n
lookup_held [] k n s held first = cc
lookup_held (None ∷ slots) k n zero held first = cc
lookup_held (None ∷ slots) k n (suc s) held first =
    lookup_held slots k n s held (λ t m below h. first (suc t) m (omega arith) h)
lookup_held (Some e ∷ slots) k n zero held first =
    let key : e.0 ≡ k = cc in
    let count : e.1 ≡ n = cc in
    ap (λ x. cond (is_at (nat_cmp k) x) (Some e.1) (lookup (is_at (nat_cmp k)) (entries_in slots))) key
    ∙ ap (λ b. cond b (Some e.1) (lookup (is_at (nat_cmp k)) (entries_in slots))) (at_self k) ∙ ap (λ x. Some x) count
lookup_held (Some e ∷ slots) k n (suc s) held first =
    let apart : k ≢ e.0 = λ same. first 0 e.1 (omega arith) (ap (λ x. Some (Some (x, e.1))) (sym same)) in
    ap (λ b. cond b (Some e.1) (lookup (is_at (nat_cmp k)) (entries_in slots))) (at_other k e.0 apart)
    ∙ lookup_held slots k n s held (λ t m below h. first (suc t) m (omega arith) h)

pub lookup_nowhere : (slots : SlotList) (k : ℕ) → IsNowhere slots k
    → lookup (is_at (nat_cmp k)) (entries_in slots) ≡ None
lookup_nowhere [] k none = refl
lookup_nowhere (None ∷ slots) k none = lookup_nowhere slots k (λ t m h. none (suc t) m h)
lookup_nowhere (Some e ∷ slots) k none =
    let apart : k ≢ e.0 = λ same. none 0 e.1 (ap (λ x. Some (Some (x, e.1))) (sym same)) in
    ap (λ b. cond b (Some e.1) (lookup (is_at (nat_cmp k)) (entries_in slots))) (at_other k e.0 apart)
    ∙ lookup_nowhere slots k (λ t m h. none (suc t) m h)

pub held_by_lookup : (slots : SlotList) (k n : ℕ) → lookup (is_at (nat_cmp k)) (entries_in slots) ≡ Some n
    → (s : ℕ) × Holds slots s k n
held_by_lookup [] k n found = absurd (let never : ◌≡◌ {A = Option ℕ} None (Some n) = found in cc)
held_by_lookup (None ∷ slots) k n found = let rest = held_by_lookup slots k n found in (suc rest.0, rest.1)
held_by_lookup (Some e ∷ slots) k n found =
    elim (cases_eq k e.0) [
      | inl same ↦
          let here : Some e.1 ≡ Some n =
          sym (ap (λ b. cond b (Some e.1) (lookup (is_at (nat_cmp k)) (entries_in slots)))
          (ap (λ x. is_at (nat_cmp k) x) (sym same) ∙ at_self k))
          ∙ found in
          let count : e.1 ≡ n = cc in
          (zero, ap (λ x. Some (Some (x, e.1))) (sym same) ∙ ap (λ x. Some (Some (k, x))) count)
      | inr apart ↦
          let rest =
          held_by_lookup slots k n
          (sym (ap (λ b. cond b (Some e.1) (lookup (is_at (nat_cmp k)) (entries_in slots))) (at_other k e.0 apart))
          ∙ found) in
          (suc rest.0, rest.1)
    ]

-- a slot that is written for one key changes what no other key finds
pub lookup-set_other : (slots : SlotList) (s k v q : ℕ) → q ≢ k → IsOpenTo slots s k
    → lookup (is_at (nat_cmp q)) (entries_in (set slots s (Some (k, v))))
    ≡ lookup (is_at (nat_cmp q)) (entries_in slots)
lookup-set_other [] s k v q apart ready = refl
lookup-set_other (None ∷ slots) zero k v q apart ready =
    ap (λ b. cond b (Some v) (lookup (is_at (nat_cmp q)) (entries_in slots))) (at_other q k apart)
lookup-set_other (Some e ∷ slots) zero k v q apart (inl empty) =
    absurd (let never : ◌≡◌ {A = Option (Option (ℕ × ℕ))} (Some (Some e)) (Some None) = empty in cc)
lookup-set_other (Some e ∷ slots) zero k v q apart (inr (m, held)) =
    let key : e.0 ≡ k = cc in
    let rest = lookup (is_at (nat_cmp q)) (entries_in slots) in
    ap (λ b. cond b (Some v) rest) (at_other q k apart)
    ∙ sym (ap (λ x. cond (is_at (nat_cmp q) x) (Some e.1) rest) key
    ∙ ap (λ b. cond b (Some e.1) rest) (at_other q k apart))
lookup-set_other (None ∷ slots) (suc s) k v q apart ready = lookup-set_other slots s k v q apart ready
lookup-set_other (Some e ∷ slots) (suc s) k v q apart ready =
    ap (cond (is_at (nat_cmp q) e.0) (Some e.1)) (lookup-set_other slots s k v q apart ready)

-- the map after one slot is written
pub counts_in-set : (slots : SlotList) (s k v : ℕ) → s < length slots → IsOpenTo slots s k
    → ((t m : ℕ) → t ≢ s → Holds slots t k m → ⊥) → counts_in (set slots s (Some (k, v))) ≡ insert (counts_in slots) k v
counts_in-set slots s k v below ready nowhere = same_counts _ _ (λ q. elim (cases_eq q k) [
  | inl same ↦ ap (get (counts_in (set slots s (Some (k, v))))) same ∙ get-entries _ k
      ∙ lookup_held (set slots s (Some (k, v))) k v s (slice_get-set_same slots s (Some (k, v)) below)
      (λ t m under h. let other : t ≢ s = omega arith in
      nowhere t m other (sym (slice_get-set_other slots s t (Some (k, v)) other) ∙ h))
      ∙ sym (ap (get (insert (counts_in slots) k v)) same ∙ get-insert_same (counts_in slots) k v)
  | inr apart ↦ get-entries _ q ∙ lookup-set_other slots s k v q apart ready ∙ sym (get-entries _ q)
      ∙ sym (get-insert_other (counts_in slots) k v q apart)
])

pub get-counts_in : (slots : SlotList) (s k n : ℕ) → Apart slots → Holds slots s k n → get (counts_in slots) k ≡ Some n
get-counts_in slots s k n apart held =
    get-entries _ k
    ∙ lookup_held slots k n s held (λ t m below h. let same : s ≡ t = apart s t k n m held h in omega arith)

pub get-counts_in_nowhere : (slots : SlotList) (k : ℕ) → IsNowhere slots k → get (counts_in slots) k ≡ None
get-counts_in_nowhere slots k none = get-entries _ k ∙ lookup_nowhere slots k none

pub IsStored-held : (slots : SlotList) (s k n : ℕ) → Apart slots → Holds slots s k n → IsStored (counts_in slots) k
IsStored-held slots s k n apart held = ap is_some (get-counts_in slots s k n apart held)

held_by_found : (slots : SlotList) (k : ℕ) (found : Option ℕ) → lookup (is_at (nat_cmp k)) (entries_in slots) ≡ found
    → is_some found ≡ true → (s : ℕ) × (n : ℕ) × Holds slots s k n
held_by_found slots k None is stored = absurd (let never : false ≡ true = stored in cc)
held_by_found slots k (Some n) is stored = let held = held_by_lookup slots k n is in (held.0, n, held.1)

pub held_by_stored : (slots : SlotList) (k : ℕ) → IsStored (counts_in slots) k → (s : ℕ) × (n : ℕ) × Holds slots s k n
held_by_stored slots k stored =
    held_by_found slots k _ refl (sym (ap is_some (get-entries (entries_in slots) k)) ∙ stored)

all_apart : (slots : SlotList) (k : ℕ) → IsNowhere slots k
    → AllByRecursion (λ y. nat_eq k y ≡ false) (keys_of (entries_in slots))
all_apart [] k none = tt
all_apart (None ∷ slots) k none = all_apart slots k (λ t m h. none (suc t) m h)
all_apart (Some e ∷ slots) k none =
    let apart : k ≢ e.0 = λ same. none 0 e.1 (ap (λ x. Some (Some (x, e.1))) (sym same)) in
    (grind (arith, common_steps), all_apart slots k (λ t m h. none (suc t) m h))

pub keys_apart : (slots : SlotList) → Apart slots → IsDistinct nat_eq (keys_of (entries_in slots))
unfolding IsDistinct
keys_apart [] apart = tt
keys_apart (None ∷ slots) apart =
    keys_apart slots (λ s t k m n a b. let same : suc s ≡ suc t = apart (suc s) (suc t) k m n a b in omega arith)
keys_apart (Some e ∷ slots) apart = (
  all_apart slots e.0 (λ t m h. let same : 0 ≡ suc t = apart 0 (suc t) e.0 e.1 m refl h in omega arith),
  keys_apart slots (λ s t k m n a b. let same : suc s ≡ suc t = apart (suc s) (suc t) k m n a b in omega arith),
)

entries-take : (slots : SlotList) (i : ℕ) (slot : Option (ℕ × ℕ)) → slice_get slots i ≡ Some slot
    → entries_in (take (i + 1) slots) ≡ entries_in (take i slots) ++ cons_option slot []
entries-take slots i slot is =
    ap entries_in (take_more slots i None (slice_get_within slots i slot is))
    ∙ filter_map-append (λ x. x) (take i slots) (get_or slots i None ∷ [])
    ∙ ap (λ x. entries_in (take i slots) ++ cons_option x []) (get_or_from_slice_get slots i slot None is)

-- the slots looked at so far, with one more
pub counts_in-take_empty : (slots : SlotList) (i : ℕ) → slice_get slots i ≡ Some None
    → counts_in (take (i + 1) slots) ≡ counts_in (take i slots)
counts_in-take_empty slots i empty =
    ap (λ es. from_entries {R = nat_cmp} es) (entries-take slots i None empty ∙ append-nil _)

slice_get-take : {X : Type 0} (i : ℕ) (xs : List X) (t : ℕ) (x : X) → slice_get (take i xs) t ≡ Some x
    → (t < i) × (slice_get xs t ≡ Some x)
slice_get-take {X} zero xs t x is = absurd (let never : ◌≡◌ {A = Option X} None (Some x) = is in cc)
slice_get-take {X} (suc i) [] t x is = absurd (let never : ◌≡◌ {A = Option X} None (Some x) = is in cc)
slice_get-take (suc i) (y ∷ xs) zero x is = (omega arith, is)
slice_get-take (suc i) (y ∷ xs) (suc t) x is =
    let rest = slice_get-take i xs t x is in
    let below : t < i = rest.0 in (omega arith, rest.1)

pub counts_in-take_held : (slots : SlotList) (i k n : ℕ) → Apart slots → Holds slots i k n
    → counts_in (take (i + 1) slots) ≡ insert (counts_in (take i slots)) k n
counts_in-take_held slots i k n apart held =
    let none : IsNowhere (take i slots) k = λ t m h. let before = slice_get-take i slots t (Some (k, m)) h in
    let below : t < i = before.0 in
    let same : i ≡ t = apart i t k n m held before.1 in omega arith in
    ap (λ es. from_entries {R = nat_cmp} es) (entries-take slots i (Some (k, n)) held)
    ∙ from_entries_push nat_cmp_total nat_cmp-IsAntisymmetric (entries_in (take i slots)) k n
    (find-lookup k (entries_in (take i slots)) ∙ lookup_nowhere (take i slots) k none)

-- what the slots so far have, all of them have
pub IsStored-take : (slots : SlotList) (i k : ℕ) → Apart slots → IsStored (counts_in (take i slots)) k
    → IsStored (counts_in slots) k
IsStored-take slots i k apart stored =
    let held = held_by_stored (take i slots) k stored in
    let whole = slice_get-take i slots held.0 (Some (k, held.1)) held.2 in
    IsStored-held slots held.0 k held.1 apart whole.1

-- the next key is not among those of the slots so far
pub get-take_next : (slots : SlotList) (i k n : ℕ) → Apart slots → Holds slots i k n
    → get (counts_in (take i slots)) k ≡ None
get-take_next slots i k n apart held = get-counts_in_nowhere (take i slots) k (λ t m h.
    let before = slice_get-take i slots t (Some (k, m)) h in
    let below : t < i = before.0 in
    let same : i ≡ t = apart i t k n m held before.1 in omega arith)

-- the entries whose number is at least 1, in the slots so far
abbrev pub counted_in : ℕ → SlotList → List (ℕ × ℕ)
counted_in i slots = filter (λ e. nat_lt 0 e.1) (entries_in (take i slots))

counted_in-take : (slots : SlotList) (i : ℕ) (slot : Option (ℕ × ℕ)) → slice_get slots i ≡ Some slot
    → counted_in (i + 1) slots ≡ counted_in i slots ++ filter (λ e. nat_lt 0 e.1) (cons_option slot [])
counted_in-take slots i slot is =
    ap (filter (λ e. nat_lt 0 e.1)) (entries-take slots i slot is)
    ∙ filter-append (λ e. nat_lt 0 e.1) (entries_in (take i slots)) (cons_option slot [])

-- an empty slot, or a key with the count 0
pub counted_in-none : (slots : SlotList) (i : ℕ) (slot : Option (ℕ × ℕ)) → slice_get slots i ≡ Some slot
    → ((k n : ℕ) → Holds slots i k n → n ≡ 0)
    → counted_in (i + 1) slots ≡ counted_in i slots
counted_in-none slots i None empty none = counted_in-take slots i None empty ∙ append-nil _
counted_in-none slots i (Some (k, n)) held none =
    let no_count : n ≡ 0 = none k n held in
    let test : nat_lt 0 n ≡ false = grind (arith, common_steps) in
    counted_in-take slots i (Some (k, n)) held ∙ ap (λ b. counted_in i slots ++ cond b ((k, n) ∷ []) []) test
    ∙ append-nil _

pub counted_in-some : (slots : SlotList) (i k n : ℕ) → Holds slots i k n → 1 ≤ n
    → counted_in (i + 1) slots ≡ counted_in i slots ++ (k, n) ∷ []
counted_in-some slots i k n held some =
    let test : nat_lt 0 n ≡ true = grind (arith, common_steps) in
    counted_in-take slots i (Some (k, n)) held ∙ ap (λ b. counted_in i slots ++ cond b ((k, n) ∷ []) []) test

pub counted_in-all : (slots : SlotList) (i : ℕ) → length slots ≤ i
    → counted_in i slots ≡ filter (λ e. nat_lt 0 e.1) (entries_in slots)
counted_in-all slots i all = ap (λ (xs : SlotList). filter (λ e. nat_lt 0 e.1) (entries_in xs)) (take_all i slots all)

-- so far there are no more of them than in all slots
pub counted_in-le : (slots : SlotList) (i : ℕ)
    → length (counted_in i slots) ≤ length (filter (λ e. nat_lt 0 e.1) (entries_in slots))
counted_in-le slots i =
    let p : ℕ × ℕ → Bool = λ e. nat_lt 0 e.1 in
    let rest = filter p (entries_in (drop i slots)) in
    let parts : filter p (entries_in slots) ≡ counted_in i slots ++ rest =
    ap (λ (xs : SlotList). filter p (entries_in xs)) (sym (take-append-drop i slots))
    ∙ ap (filter p) (filter_map-append (λ x. x) (take i slots) (drop i slots))
    ∙ filter-append p (entries_in (take i slots)) (entries_in (drop i slots)) in
    omega (arith, ap length parts, length-append (counted_in i slots) rest)
