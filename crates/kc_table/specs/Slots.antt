-- The contents of a table of fixed size.
use Rattle.std.specs.Prelude.{◌≡◌, ◌≢◌, ℕ, ◌^◌, ◌<◌, List, filter, nat_lt, length, slice_set}
use Rattle.kc_table.specs.declared.reprobes.Reprobing.{Reprobing}
use Rattle.kc_table.specs.declared.reprobes.Reprobing.TheVariants.{Found, Free, Crowded}
use Rattle.kc_table.specs.declared.slots.Slots.{Slots}
use Rattle.kc_table.specs.Counts.{KeyCounts}
use Rattle.kc_table.specs.QuotientTable.{SlotList, entries_in}
use Rattle.kc_table.specs.Slot.{IsSound, tag_at, contents_of, counts_of}

-- the contents of each slot of the table
abbrev pub slot_list : Slots → SlotList
slot_list table = contents_of table.log table.slots.items

-- the map in the table
abbrev pub key_counts : Slots → KeyCounts
key_counts table = counts_of table.log table.slots.items

-- its keys whose count is at least 1, with their counts
abbrev pub counted_entries : Slots → List (ℕ × ℕ)
counted_entries table = filter (λ e. nat_lt 0 e.1) (entries_in (slot_list table))

-- the tag in each slot
abbrev pub slot_tags : Slots → ℕ → ℕ
slot_tags table = tag_at table.slots.items

-- The tag can be put into this slot: the slot is empty, the tag fits, and with it the tags stay sound.
pub record TakesTag (table : Slots) (place tag : ℕ) : Type 0 where
  pub in_range : place < length table.slots.items
  pub empty : slot_tags table place ≡ 0
  pub some : tag ≢ 0
  pub fits : tag < 2 ^ table.slots.tag_bits
  pub sound : (count : ℕ)
      → IsSound table.bits table.log (tag_at (slice_set table.slots.items place (record { tag = tag; count = count })))

-- if a search found a free place and a tag for it, the place can take this tag
abbrev pub HasRoom : Slots → Reprobing → Type 0
HasRoom table (Found place) = Unit
HasRoom table (Free place tag) = TakesTag table place tag
HasRoom table Crowded = Unit
