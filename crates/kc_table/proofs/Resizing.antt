-- The map of a table, moved to a larger one, and what it means for a size that a key finds no place there.
use Rattle.std.proofs.Common.{◌≡◌, ◌≢◌, ◌∙◌, ℕ, ◌+◌, ◌*◌, ◌/◌, ◌%◌, ◌^◌, ◌<◌, ◌≤◌, length, take, Some, None, sym}
use Rattle.std.proofs.Common.{◌↔◌, ap, subst, subst₂, arith, slice_get, inl, bit_and, pow_mono, le-add_right, take_all}
use Rattle.std.specs.FinMap.{get, insert, empty}
use Rattle.kc_table.specs.declared.slots.Slots.{Slots}
use Rattle.kc_table.specs.Counts.{KeyCounts, IsStored}
use Rattle.kc_table.specs.QuotientTable.{Table, counts_in, Holds, IsCrowded, HasStoredCrowd, MayBeTooSmall, MayBeFull}
use Rattle.kc_table.specs.Reprobing.{triangle, reprobe_of, IsOut}
use Rattle.kc_table.specs.Slot.{key_in, contents_of}
use Rattle.kc_table.specs.Slots.{key_counts, slot_tags}
use Rattle.kc_table.proofs.Contents.{IsStored-held, IsStored-take, get-take_next, counts_in-take_empty}
use Rattle.kc_table.proofs.Contents.{counts_in-take_held}
use Rattle.kc_table.proofs.Crowding.{crowded_wider}
use Rattle.kc_table.proofs.ReprobingSteps.{key_computed, steps_back-le}
use Rattle.kc_table.proofs.SlotSteps.{length-contents_from, slots_apart, crowded_by_out, mask_of, mask_is}
use Rattle.kc_table.proofs.Soundness.{log_below_by_out, key_in-lt}

-- the sum that `key_at` reads the home of a slot's key from, by the number in the slot's tag
abbrev pub home_sum : Slots → ℕ → ℕ → ℕ
home_sum table index number = index + mask_of table * triangle (reprobe_of number)

-- and the key, as it is computed
abbrev pub key_sum : Slots → ℕ → ℕ → ℕ
key_sum table index number = number / 64 * 2 ^ table.log % 2 ^ 64 + bit_and (home_sum table index number) (mask_of table)

pub record IsKeyRead (table : Slots) (index tag number : ℕ) : Type 0 where
  pub home_fits : home_sum table index number < 2 ^ 64
  pub fits : key_sum table index number < 2 ^ 64
  pub is : key_sum table index number ≡ key_in table.log index tag
  pub in_range : key_sum table index number < 2 ^ table.bits

pub key_read : (table : Slots) (index tag number : ℕ) → tag ≡ slot_tags table index → tag ≢ 0 → number ≡ tag
    → IsKeyRead table index tag number
key_read table index tag number read some is =
    let full : slot_tags table index ≢ 0 = λ none. some (read ∙ none) in
    let key : key_in table.log index tag < 2 ^ table.bits =
    subst (λ t. key_in table.log index t < 2 ^ table.bits) (sym read) (key_in-lt table.sound index full) in
    let room : 2 ^ table.bits ≤ 2 ^ 62 = pow_mono table.sound.few_bits in
    let high : tag / 64 * 2 ^ table.log ≤ key_in table.log index tag = le-add_right _ _ in
    let same : key_sum table index number ≡ key_in table.log index tag =
    ap (key_sum table index) is ∙ key_computed table.log tag index (mask_of table) (mask_is table) (omega arith) in
    let inside : index < 2 ^ table.log = table.sound.inside index full in
    let few : 2 ^ table.log ≤ 2 ^ 40 = pow_mono table.sound.few_slots in
    let back : mask_of table * triangle (reprobe_of number) ≤ 2 ^ 40 * 1953 =
    steps_back-le table.log number (mask_of table) (mask_is table) table.sound.few_slots in
    record {
      home_fits = omega arith;
      fits = subst (λ k. k < 2 ^ 64) (sym same) (omega arith);
      is = same;
      in_range = subst (λ k. k < 2 ^ table.bits) (sym same) key;
    }

-- The map of the first slots of a table, carried over to one of 2 ^ log slots.
pub record IsCarried (from to : Slots) (log index : ℕ) : Type 0 where
  pub same_bits : to.bits ≡ from.bits
  pub same_log : to.log ≡ log
  pub counts : key_counts to ≡ counts_in (take index (contents_of from.log from.slots.items))

-- the contents of the slot at this index are put into the other table
pub record IsPut (from to after : Slots) (index key count : ℕ) : Type 0 where
  pub held : Holds (contents_of from.log from.slots.items) index key count
  pub same_bits : after.bits ≡ to.bits
  pub same_log : after.log ≡ to.log
  pub put : key_counts after ≡ insert (key_counts to) key count

module _ (from to : Slots) (log index : ℕ) (carried : IsCarried from to log index) where
  pub carried_new : (key count : ℕ) → Holds (contents_of from.log from.slots.items) index key count
      → get (key_counts to) key ≡ None
  carried_new key count held =
      ap (λ (m : KeyCounts). get m key) carried.counts
      ∙ get-take_next (contents_of from.log from.slots.items) index key count (slots_apart from.slots.items from.sound)
      held

  pub carried_empty : slice_get (contents_of from.log from.slots.items) index ≡ Some None
      → IsCarried from to log (index + 1)
  carried_empty none = record {
    same_bits = carried.same_bits;
    same_log = carried.same_log;
    counts = carried.counts ∙ sym (counts_in-take_empty (contents_of from.log from.slots.items) index none);
  }

  pub carried_held : (after : Slots) (key count : ℕ) → IsPut from to after index key count
      → IsCarried from after log (index + 1)
  carried_held after key count put = record {
    same_bits = put.same_bits ∙ carried.same_bits;
    same_log = put.same_log ∙ carried.same_log;
    counts = put.put ∙ ap (λ (m : KeyCounts). insert m key count) carried.counts
        ∙ sym (counts_in-take_held (contents_of from.log from.slots.items) index key count
        (slots_apart from.slots.items from.sound) put.held);
  }

  pub carried_all : length from.slots.items ≤ index → key_counts to ≡ key_counts from
  carried_all all =
      let same : length (contents_of from.log from.slots.items) ≡ length from.slots.items =
      length-contents_from from.log 0 from.slots.items in
      carried.counts ∙ ap counts_in (take_all index (contents_of from.log from.slots.items) (omega arith))

  -- a key that finds all its places taken there is stored, and crowded
  pub carried_narrow : (key : ℕ) → key < 2 ^ from.bits → IsOut to.log (slot_tags to) key → log < from.bits
  carried_narrow key below out =
      subst₂ (λ l b. l < b) carried.same_log carried.same_bits
      (log_below_by_out to.sound key (subst (λ b. key < 2 ^ b) (sym carried.same_bits) below) out)

  pub carried_out : (key count : ℕ) → Holds (contents_of from.log from.slots.items) index key count
      → IsOut to.log (slot_tags to) key → HasStoredCrowd log (key_counts from)
  carried_out key count held out =
      let apart = slots_apart from.slots.items from.sound in
      let stored : (k : ℕ) → IsStored (key_counts to) k → IsStored (key_counts from) k =
      λ k is. IsStored-take (contents_of from.log from.slots.items) index k apart
      (subst (λ (m : KeyCounts). IsStored m k) carried.counts is) in (
        key,
        IsStored-held (contents_of from.log from.slots.items) index key count apart held,
        subst (λ l. IsCrowded (key_counts from) l key) carried.same_log
            (crowded_wider _ _ _ _ stored (crowded_by_out to.slots.items to.sound key out)),
      )

pub carried_none : (from to : Slots) (log : ℕ) → to.bits ≡ from.bits → to.log ≡ log → key_counts to ≡ empty
    → IsCarried from to log 0
carried_none from to log bits_is log_is none = record { same_bits = bits_is; same_log = log_is; counts = none }

-- the table has 2 ^ log slots for keys of so many bits, and these counts
pub record IsTableOf (bits log : ℕ) (counts : KeyCounts) (table : Slots) : Type 0 where
  pub same_bits : table.bits ≡ bits
  pub same_log : table.log ≡ log
  pub same_counts : key_counts table ≡ counts

-- a key finds no place there
pub small_by_out : (bits log key : ℕ) (counts : KeyCounts) (table : Slots) → IsTableOf bits log counts table
    → key < 2 ^ bits
    → IsOut table.log (slot_tags table) key → MayBeTooSmall bits log counts key
small_by_out bits log key counts table is below out = (
  subst₂ (λ l b. l < b) is.same_log is.same_bits
      (log_below_by_out table.sound key (subst (λ b. key < 2 ^ b) (sym is.same_bits) below) out),
  inl (subst₂ (λ m l. IsCrowded m l key) is.same_counts is.same_log
      (crowded_by_out table.slots.items table.sound key out)),
)

-- tables with the same limits are full alike
pub full_alike : (s t : Table) → s.bits ≡ t.bits → s.max_log ≡ t.max_log → (m : KeyCounts) (q : ℕ)
    → MayBeFull s m q ↔ MayBeFull t m q
full_alike s t bits max_log m q =
    (subst₂ (λ b l. MayBeTooSmall b l m q) bits max_log, subst₂ (λ b l. MayBeTooSmall b l m q) (sym bits) (sym max_log))
