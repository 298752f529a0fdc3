-- What a slot that is written changes in a table of fixed size.
use Rattle.std.proofs.Common.{◌≡◌, ◌≢◌, ◌∙◌, ℕ, ◌+◌, ◌^◌, ◌<◌, List, length, length-set, set, Some}
use Rattle.std.proofs.Common.{sym, ap, subst, arith, inl, inr, zero-add}
use Rattle.std.specs.FinMap.{insert}
use Rattle.std.proofs.lemmas.Bool.{cases_eq}
use Rattle.kc_table.specs.declared.slots.Slots.{Slots}
use Rattle.kc_table.specs.Counts.{count_at, readied, added}
use Rattle.kc_table.specs.QuotientTable.{counts_in}
use Rattle.kc_table.specs.Reprobing.{tag_of, IsFound, IsFree}
use Rattle.kc_table.specs.Slot.{Slot, IsSound, key_in, tag_at, slot_count, content_of, contents_of, counts_of}
use Rattle.kc_table.specs.Slots.{TakesTag}
use Rattle.kc_table.proofs.Contents.{counts_in-set}
use Rattle.kc_table.proofs.KeyCounts.{readied_stored, readied_new, added_new, count_at-some}
use Rattle.kc_table.proofs.Places.{place-lt, key_in-tag_of}
use Rattle.kc_table.proofs.SlotSteps.{length-contents_from, contents_from-set, content_of_some, within_slots, empty_at}
use Rattle.kc_table.proofs.SlotSteps.{slots_apart, holds_found, nowhere_free, get_found, get_free}
use Rattle.kc_table.proofs.SlotNumbers.{tag_at-set_same, tag_at-set_other}
use Rattle.kc_table.proofs.Soundness.{tag_fits, found_some, found_key, sound_put, sound_same}

contents_of-set : (log : ℕ) (slots : List Slot) (s : ℕ) (slot : Slot) (k : ℕ) → slot.tag ≢ 0 → key_in log s slot.tag ≡ k
    → contents_of log (set slots s slot) ≡ set (contents_of log slots) s (Some (k, slot.count))
contents_of-set log slots s slot k some key =
    contents_from-set log 0 slots s slot ∙ ap (λ n. set (contents_of log slots) s (content_of log n slot)) (zero-add s)
    ∙ ap (set (contents_of log slots) s) (content_of_some log s slot some ∙ ap (λ x. Some (x, slot.count)) key)

-- what a table keeps if a slot is written with which the tags stay sound
pub table_kept : (table : Slots) (index tag_bits : ℕ) (slot : Slot) (after : List Slot)
    → IsSound table.bits table.log (tag_at (set table.slots.items index slot)) → tag_bits ≡ table.slots.tag_bits
    → after ≡ set table.slots.items index slot
    → record {
      sized : length after ≡ 2 ^ table.log;
      shared : table.bits + 6 ≡ table.log + tag_bits;
      sound : IsSound table.bits table.log (tag_at after);
    }
table_kept table index tag_bits slot after sound bits_are after_is = record {
  sized = ap (λ (s : List Slot). length s) after_is ∙ length-set _ _ _ ∙ table.sized;
  shared = table.shared ∙ ap (λ n. table.log + n) (sym bits_are);
  sound = subst (λ (s : List Slot). IsSound table.bits table.log (tag_at s)) (sym after_is) sound;
}

module _ (table : Slots) (key index : ℕ) where
  -- a new key is put at its first free place
  module _ (new : ℕ) (free : IsFree table.log (tag_at table.slots.items) key index new) where
    inside_slots : index < length table.slots.items
    inside_slots =
        subst (λ n. index < n) (sym table.sized)
        (subst (λ s. s < 2 ^ table.log) (sym free.here) (place-lt key free.reprobe table.log))

    tag_put_some : new ≢ 0
    tag_put_some none = absurd (omega (arith, free.is, none))

    pub takes_tag : key < 2 ^ table.bits → TakesTag table index new
    takes_tag below = record {
      in_range = inside_slots;
      empty = free.empty;
      some = tag_put_some;
      fits = subst (λ t. t < 2 ^ table.slots.tag_bits) (sym free.is)
          (tag_fits table.sound table.slots.tag_bits key free.reprobe table.shared below free.small);
      sound = λ count. sound_put table.sound key index new below free
          (tag_at (set table.slots.items index (record { tag = new; count = count })))
          (tag_at-set_same table.slots.items index (record { tag = new; count = count }) inside_slots)
          (tag_at-set_other table.slots.items index (record { tag = new; count = count }));
    }

    contents_slot_put : (count : ℕ)
        → contents_of table.log (set table.slots.items index (record { tag = new; count = count }))
        ≡ set (contents_of table.log table.slots.items) index (Some (key, count))
    contents_slot_put count =
        contents_of-set table.log table.slots.items index (record { tag = new; count = count }) key tag_put_some
        (ap (key_in table.log index) free.is ∙ ap (λ s. key_in table.log s (tag_of table.log key free.reprobe)) free.here
        ∙ key_in-tag_of key free.reprobe table.log free.small)

    inside_contents : index < length (contents_of table.log table.slots.items)
    inside_contents = subst (λ n. index < n) (sym (length-contents_from table.log 0 table.slots.items)) inside_slots

    pub counts_slot_put : (count : ℕ)
        → counts_of table.log (set table.slots.items index (record { tag = new; count = count }))
        ≡ insert (counts_of table.log table.slots.items) key count
    counts_slot_put count =
        ap counts_in (contents_slot_put count)
        ∙ counts_in-set (contents_of table.log table.slots.items) index key count inside_contents
        (inl (empty_at table.log table.slots.items index inside_slots free.empty))
        (λ t m apart held. nowhere_free table.slots.items table.sound key index new free t m held)

    -- as it is readied
    pub readied_put : (after : List Slot) → after ≡ set table.slots.items index (record { tag = new; count = 0 })
        → counts_of table.log after ≡ readied (counts_of table.log table.slots.items) key
    readied_put after is =
        ap (λ (s : List Slot). counts_of table.log s) is ∙ counts_slot_put 0
        ∙ sym (readied_new _ key (get_free table.slots.items table.sound key index new free))

    -- and as it is counted
    pub added_put : (after : List Slot) → after ≡ set table.slots.items index (record { tag = new; count = 1 })
        → counts_of table.log after ≡ added (counts_of table.log table.slots.items) key
    added_put after is =
        ap (λ (s : List Slot). counts_of table.log s) is ∙ counts_slot_put 1
        ∙ added_new _ key (get_free table.slots.items table.sound key index new free)

  pub readied_found : IsFound table.log (tag_at table.slots.items) key index
      → counts_of table.log table.slots.items ≡ readied (counts_of table.log table.slots.items) key
  readied_found found = sym (readied_stored _ key _ (get_found table.slots.items table.sound key index found))

  -- the count of a stored key is written
  module _ (count : ℕ) (found : IsFound table.log (tag_at table.slots.items) key index) where
    pub sound_slot_count_put : IsSound table.bits table.log
        (tag_at (set table.slots.items index (record { tag = tag_at table.slots.items index; count = count })))
    sound_slot_count_put =
        let slot : Slot = record { tag = tag_at table.slots.items index; count = count } in
        sound_same table.sound (tag_at (set table.slots.items index slot)) (λ s. elim (cases_eq s index) [
          | inl same ↦ ap (tag_at (set table.slots.items index slot)) same
              ∙ tag_at-set_same table.slots.items index slot
              (within_slots table.slots.items index (found_some table.sound key index found))
              ∙ ap (tag_at table.slots.items) (sym same)
          | inr apart ↦ tag_at-set_other table.slots.items index slot s apart
        ])

    contents_slot_count_put : contents_of table.log
        (set table.slots.items index (record { tag = tag_at table.slots.items index; count = count }))
        ≡ set (contents_of table.log table.slots.items) index (Some (key, count))
    contents_slot_count_put =
        contents_of-set table.log table.slots.items index
        (record { tag = tag_at table.slots.items index; count = count }) key
        (found_some table.sound key index found) (found_key table.sound key index found)

    pub counts_slot_count_put : counts_in
        (contents_of table.log
        (set table.slots.items index (record { tag = tag_at table.slots.items index; count = count })))
        ≡ insert (counts_in (contents_of table.log table.slots.items)) key count
    counts_slot_count_put =
        let some = found_some table.sound key index found in
        let held = holds_found table.slots.items table.sound key index found in
        ap counts_in contents_slot_count_put
        ∙ counts_in-set (contents_of table.log table.slots.items) index key count
        (subst (λ n. index < n) (sym (length-contents_from table.log 0 table.slots.items))
        (within_slots table.slots.items index some))
        (inr (slot_count table.slots.items index, held))
        (λ t m apart other. apart
        (slots_apart table.slots.items table.sound t index key m (slot_count table.slots.items index) other held))

  -- and is the new count for its old one
  module _ (found : IsFound table.log (tag_at table.slots.items) key index) where
    pub count_here : count_at (counts_of table.log table.slots.items) key ≡ slot_count table.slots.items index
    count_here = count_at-some _ key _ (get_found table.slots.items table.sound key index found)

    pub changed_put : (change : ℕ → ℕ) (after : List Slot) → after ≡ set table.slots.items index
        (record { tag = tag_at table.slots.items index; count = change (slot_count table.slots.items index) })
        → counts_of table.log after ≡ insert (counts_of table.log table.slots.items) key
        (change (count_at (counts_of table.log table.slots.items) key))
    changed_put change after is =
        ap (λ (s : List Slot). counts_of table.log s) is
        ∙ counts_slot_count_put (change (slot_count table.slots.items index)) found
        ∙ ap (λ n. insert (counts_of table.log table.slots.items) key (change n)) (sym count_here)
