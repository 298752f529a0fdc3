-- Slots and their contents: what writing a slot changes, and what a found, a free and a crowded key mean for the map.
use Rattle.std.proofs.Common.{◌≡◌, ◌≢◌, ◌∙◌, ℕ, zero, suc, ◌+◌, ◌-◌, ◌*◌, ◌%◌, ◌^◌, ◌<◌, ◌≤◌, true, false, cond, List, [], ◌∷◌}
use Rattle.std.proofs.Common.{length, set, replicate, Some, None, Option, nat_eq, nat_cmp, get_or, refl, sym, ap, subst, arith}
use Rattle.std.proofs.Common.{slice_get, inl, inr, zero-add, add-zero}
use Rattle.std.proofs.Math.Nat.{min-le_left}
use Rattle.std.proofs.lemmas.Bool.{cases_eq, cases_lt}
use Rattle.std.proofs.lemmas.Nat.{one_shl}
use Rattle.kc_table.specs.declared.slots.Slots.{Slots}
use Rattle.std.proofs.lemmas.List.{get_or_past, get_or-replicate, length-replicate}
use Rattle.std.proofs.lemmas.Option.{slice_get_within}
use Rattle.std.proofs.lemmas.Grind.{common_steps}
use Rattle.std.specs.FinMap.{get, empty, get-empty}
use Rattle.kc_table.specs.Counts.{KeyCounts, IsStored, IsWithin}
use Rattle.kc_table.specs.QuotientTable.{Table, counts_in, Holds, HoldsKey, IsCrowded, different_places, IsFoundAfter, IsMissedAfter}
use Rattle.kc_table.specs.Reprobing.{place, tag_of, reprobe_of, IsFound, IsFree, IsOut, AreTakenBefore}
use Rattle.kc_table.specs.Sizes.{place_count}
use Rattle.kc_table.specs.Slot.{Slot, key_in, IsSound, empty_slot, tag_at, slot_count, content_of, contents_from}
use Rattle.kc_table.specs.Slot.{contents_of, counts_of}
use Rattle.kc_table.specs.Slots.{slot_list, counted_entries}
use Rattle.kc_table.proofs.Crowding.{CrowdAt, crowded_from}
use Rattle.kc_table.proofs.KeyCounts.{same_counts, stored_found}
use Rattle.kc_table.proofs.Places.{place-lt, place-home, places_differ, reprobe_of-tag_of, key_in-tag_of}
use Rattle.kc_table.proofs.Contents.{Apart, IsNowhere, get-counts_in, get-counts_in_nowhere, IsStored-held}
use Rattle.kc_table.proofs.Contents.{held_by_stored, counted_in, counted_in-none, counted_in-all}
use Rattle.kc_table.proofs.Soundness.{reprobe_small, at_place, has_tag, absent_by_free, absent_by_out, found_some}
use Rattle.kc_table.proofs.Soundness.{found_key, key_in-lt, stands}

pub length-contents_from : (log a : ℕ) (slots : List Slot) → length (contents_from log a slots) ≡ length slots
length-contents_from log a [] = refl
length-contents_from log a (slot ∷ slots) = ap suc (length-contents_from log (a + 1) slots)

slice_get-contents_from : (log a : ℕ) (slots : List Slot) (s : ℕ) → s < length slots
    → slice_get (contents_from log a slots) s ≡ Some (content_of log (a + s) (get_or slots s empty_slot))
slice_get-contents_from log a [] s below = absurd (omega arith)
slice_get-contents_from log a (slot ∷ slots) zero below = ap (λ n. Some (content_of log n slot)) (sym (add-zero a))
slice_get-contents_from log a (slot ∷ slots) (suc s) below =
    let step : a + 1 + s ≡ a + suc s = omega arith in
    slice_get-contents_from log (a + 1) slots s (omega arith)
    ∙ ap (λ n. Some (content_of log n (get_or slots s empty_slot))) step

pub contents_from-set : (log a : ℕ) (slots : List Slot) (s : ℕ) (slot : Slot)
    → contents_from log a (set slots s slot) ≡ set (contents_from log a slots) s (content_of log (a + s) slot)
contents_from-set log a [] s slot = refl
contents_from-set log a (x ∷ slots) zero slot =
    ap (λ n. content_of log n slot ∷ contents_from log (a + 1) slots) (sym (add-zero a))
contents_from-set log a (x ∷ slots) (suc s) slot =
    let step : a + 1 + s ≡ a + suc s = omega arith in
    ap (λ xs. content_of log a x ∷ xs)
    (contents_from-set log (a + 1) slots s slot
    ∙ ap (λ n. set (contents_from log (a + 1) slots) s (content_of log n slot)) step)

pub content_at : (log : ℕ) (slots : List Slot) (s : ℕ) → s < length slots
    → slice_get (contents_of log slots) s ≡ Some (content_of log s (get_or slots s empty_slot))
content_at log slots s below =
    slice_get-contents_from log 0 slots s below
    ∙ ap (λ n. Some (content_of log n (get_or slots s empty_slot))) (zero-add s)

content_of_empty : (log s : ℕ) (slot : Slot) → slot.tag ≡ 0 → content_of log s slot ≡ None
content_of_empty log s slot none =
    let test : nat_eq slot.tag 0 ≡ true = grind (arith, common_steps) in
    ap (λ b. cond b None (Some (key_in log s slot.tag, slot.count))) test

pub content_of_some : (log s : ℕ) (slot : Slot) → slot.tag ≢ 0
    → content_of log s slot ≡ Some (key_in log s slot.tag, slot.count)
content_of_some log s slot some =
    let test : nat_eq slot.tag 0 ≡ false = grind (arith, common_steps) in
    ap (λ b. cond b None (Some (key_in log s slot.tag, slot.count))) test

pub within_slots : (slots : List Slot) (s : ℕ) → tag_at slots s ≢ 0 → s < length slots
within_slots slots s some =
    elim (cases_lt s (length slots)) [
      | inl below ↦ below
      | inr past ↦ absurd (some (ap (λ (r : Slot). r.tag) (get_or_past slots s empty_slot past)))
    ]

pub holds_at : (log : ℕ) (slots : List Slot) (s : ℕ) → tag_at slots s ≢ 0
    → Holds (contents_of log slots) s (key_in log s (tag_at slots s)) (slot_count slots s)
holds_at log slots s some =
    content_at log slots s (within_slots slots s some)
    ∙ ap (λ x. Some x) (content_of_some log s (get_or slots s empty_slot) some)

pub empty_at : (log : ℕ) (slots : List Slot) (s : ℕ) → s < length slots → tag_at slots s ≡ 0
    → slice_get (contents_of log slots) s ≡ Some None
empty_at log slots s below none =
    content_at log slots s below ∙ ap (λ x. Some x) (content_of_empty log s (get_or slots s empty_slot) none)

-- the tag and count of a slot that has a key
pub record IsSlotOf (log : ℕ) (slots : List Slot) (s k n : ℕ) : Type 0 where
  pub some : tag_at slots s ≢ 0
  pub key : key_in log s (tag_at slots s) ≡ k
  pub count : slot_count slots s ≡ n

pub slot_held : (log : ℕ) (slots : List Slot) (s k n : ℕ) → Holds (contents_of log slots) s k n
    → IsSlotOf log slots s k n
slot_held log slots s k n held =
    let below : s < length slots =
    subst (λ m. s < m) (length-contents_from log 0 slots)
    (slice_get_within (contents_of log slots) s (Some (k, n)) held) in
    elim (cases_eq (tag_at slots s) 0) [
      | inl none ↦ absurd (let never : ◌≡◌ {A = Option (Option (ℕ × ℕ))} (Some None) (Some (Some (k, n))) =
          sym (empty_at log slots s below none) ∙ held in cc)
      | inr some ↦
          let same : ◌≡◌ {A = Option (Option (ℕ × ℕ))} (Some (Some (key_in log s (tag_at slots s), slot_count slots s)))
          (Some (Some (k, n))) = sym (holds_at log slots s some)
          ∙ held in
          let entry : ◌≡◌ {A = ℕ × ℕ} (key_in log s (tag_at slots s), slot_count slots s) (k, n) = cc in
          record { some = some; key = ap (λ (e : ℕ × ℕ). e.0) entry; count = ap (λ (e : ℕ × ℕ). e.1) entry }
    ]

pub held_slot : (log : ℕ) (slots : List Slot) (s k n : ℕ) → IsSlotOf log slots s k n
    → Holds (contents_of log slots) s k n
held_slot log slots s k n slot =
    holds_at log slots s slot.some ∙ ap (λ x. Some (Some (x, slot_count slots s))) slot.key
    ∙ ap (λ x. Some (Some (k, x))) slot.count

-- a slot that has a key, by what is read of it: its tag as a number, its key and its count
pub held_read : (log : ℕ) (slots : List Slot) (s number tag k n : ℕ) → number ≡ tag → tag ≡ tag_at slots s → number ≢ 0
    → k ≡ key_in log s tag → n ≡ slot_count slots s → Holds (contents_of log slots) s k n
held_read log slots s number tag k n is read some key count = held_slot log slots s k n (record {
  some = λ none. some (is ∙ read ∙ none);
  key = ap (key_in log s) (sym read) ∙ sym key;
  count = sym count;
})

module _ {bits log : ℕ} (slots : List Slot) (sound : IsSound bits log (tag_at slots)) where
  pub slots_apart : Apart (contents_of log slots)
  slots_apart s t k m n held_s held_t =
      let at_s = slot_held log slots s k m held_s in
      let at_t = slot_held log slots t k n held_t in
      sound.apart s t at_s.some at_t.some (at_s.key ∙ sym at_t.key)

  pub holds_found : (key index : ℕ) → IsFound log (tag_at slots) key index
      → Holds (contents_of log slots) index key (slot_count slots index)
  holds_found key index found =
      holds_at log slots index (found_some sound key index found)
      ∙ ap (λ k. Some (Some (k, slot_count slots index))) (found_key sound key index found)

  pub stands_found : (key index : ℕ) → IsFound log (tag_at slots) key index → HoldsKey (contents_of log slots) index key
  stands_found key index found = (slot_count slots index, holds_found key index found)

  pub nowhere_free : (key index new : ℕ) → IsFree log (tag_at slots) key index new
      → IsNowhere (contents_of log slots) key
  nowhere_free key index new free s n held =
      let slot = slot_held log slots s key n held in absent_by_free sound key index new free s slot.some slot.key

  pub nowhere_out : (key : ℕ) → IsOut log (tag_at slots) key → IsNowhere (contents_of log slots) key
  nowhere_out key out s n held =
      let slot = slot_held log slots s key n held in absent_by_out sound key out s slot.some slot.key

  pub IsWithin-slots : IsWithin bits (counts_in (contents_of log slots))
  IsWithin-slots key stored =
      let held = held_by_stored (contents_of log slots) key stored in
      let slot = slot_held log slots held.0 key held.1 held.2 in
      subst (λ k. k < 2 ^ bits) slot.key (key_in-lt sound held.0 slot.some)

  -- all places of a key are taken, so it is crowded
  pub crowded_by_out : (key : ℕ) → IsOut log (tag_at slots) key → IsCrowded (counts_in (contents_of log slots)) log key
  crowded_by_out key out =
      let at : ℕ → ℕ = λ i. place key i log in
      let small : (i : ℕ) → i < different_places log → i < place_count =
      λ i below. let most : different_places log ≤ place_count = min-le_left place_count (2 ^ log) in omega arith in
      let crowd : CrowdAt (counts_in (contents_of log slots)) log key (λ i. key_in log (at i) (tag_at slots (at i))) = record {
        stored = λ i below. IsStored-held (contents_of log slots) (at i) _ _ slots_apart
            (holds_at log slots (at i) (out i (small i below)).some);
        apart = λ i below. absent_by_out sound key out (at i) (out i (small i below)).some;
        different = λ i j si sj same. places_differ key i j log si sj
            (sound.apart (at i) (at j) (out i (small i si)).some (out j (small j sj)).some same);
        meeting = λ i below. stands sound (at i) (out i (small i below)).some;
      } in
      crowded_from crowd

  -- the key's first n places have other keys
  abbrev pub AreHeldByOthers : ℕ → ℕ → Type 0
  AreHeldByOthers key n =
      (i : ℕ) → i < n → (other : ℕ) × (other ≢ key) × HoldsKey (contents_of log slots) (place key i log) other

  others_at : (key n : ℕ) → AreTakenBefore log (tag_at slots) key n
      → ((j : ℕ) → j < n → key_in log (place key j log) (tag_at slots (place key j log)) ≢ key) → AreHeldByOthers key n
  others_at key n taken apart i below =
      let s = place key i log in
      (key_in log s (tag_at slots s), apart i below, (slot_count slots s, holds_at log slots s (taken i below).some))

  pub taken_found : (key index : ℕ) (found : IsFound log (tag_at slots) key index)
      → AreTakenBefore log (tag_at slots) key found.reprobe → AreHeldByOthers key found.reprobe
  taken_found key index found taken = others_at key found.reprobe taken (λ j below same.
      let some = found_some sound key index found in
      let is : key_in log index (tag_at slots index) ≡ key = found_key sound key index found in
      let reprobe : reprobe_of (tag_at slots index) ≡ found.reprobe =
      ap reprobe_of found.is ∙ reprobe_of-tag_of log key found.reprobe found.small in
      let here : place key j log ≡ index =
      sound.apart (place key j log) index (taken j below).some some (same ∙ sym is) in
      sound.first index j some (subst (λ n. j < n) (sym reprobe) below) (ap (λ k. place k j log) is ∙ here))

  pub taken_free : (key index new : ℕ) (free : IsFree log (tag_at slots) key index new)
      → AreHeldByOthers key free.reprobe
  taken_free key index new free =
      others_at key free.reprobe free.before
      (λ j below. absent_by_free sound key index new free (place key j log) (free.before j below).some)

  pub taken_out : (key : ℕ) → IsOut log (tag_at slots) key → AreHeldByOthers key place_count
  taken_out key out =
      others_at key place_count out (λ j below. absent_by_out sound key out (place key j log) (out j below).some)

  pub empty_free : length slots ≡ 2 ^ log → (key index new : ℕ) (free : IsFree log (tag_at slots) key index new)
      → slice_get (contents_of log slots) (place key free.reprobe log) ≡ Some None
  empty_free sized key index new free =
      let fits : index < length slots =
      subst (λ n. index < n) (sym sized) (subst (λ s. s < 2 ^ log) (sym free.here) (place-lt key free.reprobe log)) in
      ap (slice_get (contents_of log slots)) (sym free.here) ∙ empty_at log slots index fits free.empty

  -- and if all places have other keys, no walk finds one
  pub out_by_others : (key : ℕ) → AreHeldByOthers key place_count → IsOut log (tag_at slots) key
  out_by_others key others i below =
      let s = place key i log in
      let at = others i below in
      let slot = slot_held log slots s at.0 at.2.0 at.2.1 in
      record {
        some = slot.some;
        other = λ same. at.1 (sym slot.key ∙ ap (key_in log s) same ∙ key_in-tag_of key i log below);
      }

  -- a place that is empty or has the key is not taken by another
  pub not_shut_found : (key index : ℕ) → IsFound log (tag_at slots) key index → AreHeldByOthers key place_count → ⊥
  not_shut_found key index found shut =
      let at = shut found.reprobe found.small in
      let here : Holds (contents_of log slots) index at.0 at.2.0 =
      ap (slice_get (contents_of log slots)) found.here ∙ at.2.1 in
      at.1 (sym (slot_held log slots index at.0 at.2.0 here).key ∙ found_key sound key index found)

  pub not_shut_free : (key index new : ℕ) → IsFree log (tag_at slots) key index new → AreHeldByOthers key place_count
      → ⊥
  not_shut_free key index new free shut =
      let at = shut free.reprobe free.small in
      let here : Holds (contents_of log slots) index at.0 at.2.0 =
      ap (slice_get (contents_of log slots)) free.here ∙ at.2.1 in
      (slot_held log slots index at.0 at.2.0 here).some free.empty

-- how many slots a search reads, by what its walk came to
module _ {bits log : ℕ} (slots : List Slot) (sound : IsSound bits log (tag_at slots)) (max_log key reads : ℕ) where
  abbrev searched : Table
  searched = record { bits = bits; max_log = max_log; log = log; slots = contents_of log slots }

  pub found_after : (index : ℕ) (found : IsFound log (tag_at slots) key index)
      → AreTakenBefore log (tag_at slots) key found.reprobe → reads ≡ found.reprobe + 1
      → IsFoundAfter searched key reads index
  found_after index found before is =
      (found.reprobe, found.small, found.here, taken_found slots sound key index found before, is)

  pub free_after : length slots ≡ 2 ^ log → (index new : ℕ) (free : IsFree log (tag_at slots) key index new)
      → reads ≡ free.reprobe + 1 → IsMissedAfter searched key reads
  free_after sized index new free is = inl (
    free.reprobe,
    free.small,
    empty_free slots sound sized key index new free,
    taken_free slots sound key index new free,
    is,
  )

  pub out_after : IsOut log (tag_at slots) key → reads ≡ place_count → IsMissedAfter searched key reads
  out_after out is = inr (taken_out slots sound key out, is)

tag_at-replicate : (n s : ℕ) → tag_at (replicate n empty_slot) s ≡ 0
tag_at-replicate n s = elim (cases_lt s n) [
  | inl below ↦ ap (λ (r : Slot). r.tag) (get_or-replicate n s empty_slot empty_slot below)
  | inr past ↦ ap (λ (r : Slot). r.tag)
      (get_or_past (replicate n empty_slot) s empty_slot
      (let all : length (replicate n empty_slot) ≡ n = length-replicate n empty_slot in omega arith))
]

-- the number of slots, as it is computed
pub slots_shifted : (table : Slots) → 1 * 2 ^ table.log % 2 ^ 64 ≡ 2 ^ table.log
slots_shifted table = one_shl table.log 64 (omega (arith, table.sound.few_slots))

-- one less than it, as it is computed
abbrev pub mask_of : Slots → ℕ
mask_of table = 1 * 2 ^ table.log % 2 ^ 64 - 1

pub mask_is : (table : Slots) → mask_of table ≡ 2 ^ table.log - 1
mask_is table = ap (λ n. n - 1) (slots_shifted table)

-- if no slot has a tag
pub sound-empty : {bits log : ℕ} (n : ℕ) (slots : List Slot) → slots ≡ replicate n empty_slot
    → bits ≤ 62 → log ≤ 40 → log ≤ bits → bits ≤ log + 58 → IsSound bits log (tag_at slots)
sound-empty n slots is few_bits few_slots no_wider fits =
    let none : (s : ℕ) → tag_at slots s ≡ 0 = λ s. ap (λ rs. tag_at rs s) is ∙ tag_at-replicate n s in
    record {
      few_bits = few_bits;
      few_slots = few_slots;
      no_wider = no_wider;
      remainder_fits = fits;
      inside = λ s some. absurd (some (none s));
      probed = λ s some. absurd (some (none s));
      short = λ s some. absurd (some (none s));
      reached = λ s j some. absurd (some (none s));
      first = λ s j some. absurd (some (none s));
      apart = λ s t some. absurd (some (none s));
      at_home = λ home s some. absurd (some (none s));
    }

pub counts_of-empty : (log n : ℕ) (slots : List Slot) → slots ≡ replicate n empty_slot → counts_of log slots ≡ empty
counts_of-empty log n slots is = same_counts _ _ (λ q.
    get-counts_in_nowhere (contents_of log slots) q
    (λ s m held. (slot_held log slots s q m held).some (ap (λ rs. tag_at rs s) is ∙ tag_at-replicate n s))
    ∙ sym (get-empty nat_cmp q))

pub not_stored : (counts : KeyCounts) (key : ℕ) → get counts key ≡ None → IsStored counts key → ⊥
not_stored counts key none stored = stored_found None counts key stored none refl

module _ {bits log : ℕ} (slots : List Slot) (sound : IsSound bits log (tag_at slots)) (key : ℕ) where
  pub get_found : (index : ℕ) → IsFound log (tag_at slots) key index
      → get (counts_of log slots) key ≡ Some (slot_count slots index)
  get_found index found =
      get-counts_in (contents_of log slots) index key (slot_count slots index) (slots_apart slots sound)
      (holds_found slots sound key index found)

  pub get_free : (index new : ℕ) → IsFree log (tag_at slots) key index new → get (counts_of log slots) key ≡ None
  get_free index new free =
      get-counts_in_nowhere (contents_of log slots) key (nowhere_free slots sound key index new free)

  pub get_out : IsOut log (tag_at slots) key → get (counts_of log slots) key ≡ None
  get_out out = get-counts_in_nowhere (contents_of log slots) key (nowhere_out slots sound key out)

  -- the walk finds the slot that has the key
  pub found_held : (index count : ℕ) → Holds (contents_of log slots) index key count
      → IsFound log (tag_at slots) key index
  found_held index count held =
      let slot = slot_held log slots index key count held in
      record {
        reprobe = reprobe_of (tag_at slots index);
        small = reprobe_small sound index slot.some;
        here = at_place sound index slot.some ∙ ap (λ k. place k (reprobe_of (tag_at slots index)) log) slot.key;
        is = has_tag sound index slot.some ∙ ap (λ k. tag_of log k (reprobe_of (tag_at slots index))) slot.key;
      }

  pub found_at : (index : ℕ) → HoldsKey (contents_of log slots) index key → IsFound log (tag_at slots) key index
  found_at index held = found_held index held.0 held.1

  -- if there is a slot for each possible key, a key is found at its home
  pub found_home : (index : ℕ) → key < 2 ^ bits → IsFound log (tag_at slots) key index → log ≡ bits → index ≡ key
  found_home index below found full =
      let home : reprobe_of (tag_at slots index) ≡ 0 = sound.at_home full index (found_some sound key index found) in
      let low : key < 2 ^ log = subst (λ l. key < 2 ^ l) (sym full) below in
      at_place sound index (found_some sound key index found)
      ∙ ap (λ i. place (key_in log index (tag_at slots index)) i log) home
      ∙ ap (λ k. place k 0 log) (found_key sound key index found) ∙ place-home key log low

-- the entries of the first slots: if the next slot has none, and if all slots are past
pub counted_none : (table : Slots) (index : ℕ) → index < 1 * 2 ^ table.log % 2 ^ 64
    → ((key count : ℕ) → Holds (slot_list table) index key count → count ≡ 0)
    → counted_in (index + 1) (slot_list table) ≡ counted_in index (slot_list table)
counted_none table index inside none =
    let below : index < length table.slots.items = omega (arith, table.sized, slots_shifted table) in
    counted_in-none (slot_list table) index _ (content_at table.log table.slots.items index below) none

pub counted_all : (table : Slots) (index : ℕ) → 1 * 2 ^ table.log % 2 ^ 64 ≤ index
    → counted_in index (slot_list table) ≡ counted_entries table
counted_all table index past =
    let all : length table.slots.items ≤ index = omega (arith, table.sized, slots_shifted table) in
    let same : length (slot_list table) ≡ length table.slots.items = length-contents_from table.log 0 table.slots.items in
    counted_in-all (slot_list table) index (omega arith)
