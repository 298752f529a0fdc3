-- The contents of a table's slots, and the rules for their tags.
use Rattle.std.specs.Prelude.{◌≡◌, ◌≢◌, refl, ℕ, ◌+◌, ◌-◌, ◌*◌, ◌/◌, ◌%◌, ◌^◌, ◌<◌, ◌≤◌, ◌==◌}
use Rattle.std.specs.Prelude.{if◌then◌else◌, List, [], ◌∷◌, Option, Some, None, slice_index_or}
use Rattle.kc_table.specs.Counts.{KeyCounts}
use Rattle.kc_table.specs.QuotientTable.{SlotList, counts_in}
use Rattle.kc_table.specs.Reprobing.{triangle, place, reprobe_of, tag_of}
use Rattle.kc_table.specs.Sizes.{tag_step, most_bits, most_log, remainder_bits}

-- The key in a slot: its remainder, and the home for which this slot is that place. So the low bits of a key are not
-- stored (Marçais and Kingsford 2011).
abbrev pub key_in : ℕ → ℕ → ℕ → ℕ
key_in log index tag = tag / tag_step * 2 ^ log + (index + (2 ^ log - 1) * triangle (reprobe_of tag)) % 2 ^ log

-- the key 773 in a table of 256 slots, at its place 3: the tag in its slot, and the key that both determine
slot_rows :
    (tag_of 8 773 3 ≡ 196) × (reprobe_of 196 ≡ 3) × (key_in 8 11 196 ≡ 773) × (key_in 8 2 (tag_of 8 255 2) ≡ 255)
slot_rows = (refl, refl, refl, refl)

-- a slot: its tag, 0 if the slot is empty, and the count of its key
pub record Slot : Type 0 where
  pub tag : ℕ
  pub count : ℕ

abbrev pub empty_slot : Slot
empty_slot = record { tag = 0; count = 0 }

-- the tag of the slot at this index, 0 past the end
abbrev pub tag_at : List Slot → ℕ → ℕ
tag_at slots index = (slice_index_or slots index empty_slot).tag

abbrev pub slot_count : List Slot → ℕ → ℕ
slot_count slots index = (slice_index_or slots index empty_slot).count

-- the contents of the slot at this index
abbrev pub content_of : ℕ → ℕ → Slot → Option (ℕ × ℕ)
content_of log index slot = if slot.tag == 0 then None else Some (key_in log index slot.tag, slot.count)

-- the contents of the slots from this index on
abbrev pub contents_from : ℕ → ℕ → List Slot → SlotList
contents_from log index [] = []
contents_from log index (slot ∷ slots) = content_of log index slot ∷ contents_from log (index + 1) slots

abbrev pub contents_of : ℕ → List Slot → SlotList
contents_of log slots = contents_from log 0 slots

-- the map in the slots
abbrev pub counts_of : ℕ → List Slot → KeyCounts
counts_of log slots = counts_in (contents_of log slots)

-- The tags of a table of 2 ^ log slots, for keys of so many bits. A tag that is not 0 has a reprobe number and a
-- remainder that fits; the earlier places of its key are all taken, and are not its slot; no two slots have the same
-- key; and if there is a slot for each possible key, each key is at its home.
pub record IsSound (bits log : ℕ) (tag : ℕ → ℕ) : Type 0 where
  pub few_bits : bits ≤ most_bits
  pub few_slots : log ≤ most_log
  pub no_wider : log ≤ bits
  pub remainder_fits : bits ≤ log + remainder_bits
  pub inside : (s : ℕ) → tag s ≢ 0 → s < 2 ^ log
  pub probed : (s : ℕ) → tag s ≢ 0 → 1 ≤ tag s % tag_step
  pub short : (s : ℕ) → tag s ≢ 0 → tag s / tag_step < 2 ^ (bits - log)
  pub reached : (s j : ℕ) → tag s ≢ 0 → j < reprobe_of (tag s) → tag (place (key_in log s (tag s)) j log) ≢ 0
  pub first : (s j : ℕ) → tag s ≢ 0 → j < reprobe_of (tag s) → place (key_in log s (tag s)) j log ≢ s
  pub apart : (s t : ℕ) → tag s ≢ 0 → tag t ≢ 0 → key_in log s (tag s) ≡ key_in log t (tag t) → s ≡ t
  pub at_home : log ≡ bits → (s : ℕ) → tag s ≢ 0 → reprobe_of (tag s) ≡ 0
