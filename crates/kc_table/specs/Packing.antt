-- How slots are packed into numbers, and the model of such slots.
use Rattle.std.specs.Prelude.{◌≡◌, refl, ℕ, ◌-◌, ◌/◌, ◌%◌, ◌^◌, ◌<◌, ◌≤◌, ◌==◌, if◌then◌else◌}
use Rattle.std.specs.Prelude.{List, [], ◌∷◌, length, map, max, slice_index_or}
use Rattle.std.specs.List.{range_with_len}
use Rattle.kc_table.specs.GreatCounts.{great_count}
use Rattle.kc_table.specs.Slot.{Slot}

-- The slot in a number: the tag is above the `low` lowest bits, and these are the count. If they are all 1, the count
-- is a great one, which is stored elsewhere.
abbrev pub slot_of : ℕ → ℕ → ℕ → Slot
slot_of low number great = record {
  tag = number / 2 ^ low;
  count = if number % 2 ^ low == 2 ^ low - 1 then great else number % 2 ^ low;
}

-- the slots in these numbers, with these great counts
abbrev pub slots_of : ℕ → List ℕ → List (ℕ × ℕ) → List Slot
slots_of low numbers greats =
    map (λ i. slot_of low (slice_index_or numbers i 0) (great_count greats i)) (range_with_len 0 (length numbers))

-- With three bits for counts: the tag 196 with the count 5, an empty slot, and a count that has grown past 6. Then
-- slots without such bits.
slots_rows :
    (slots_of 3 (1573 ∷ 0 ∷ 527 ∷ []) ((2, 17) ∷ [])
    ≡ record { tag = 196; count = 5 } ∷ record { tag = 0; count = 0 } ∷ record { tag = 65; count = 17 } ∷ [])
    × (slots_of 0 (196 ∷ 65 ∷ []) ((0, 7) ∷ []) ≡ record { tag = 196; count = 7 } ∷ record { tag = 65; count = 0 } ∷ [])
slots_rows = (refl, refl)

-- how many bits of each number are the tag, and the slots
pub record Packed : Type 0 where
  pub tag_bits : ℕ
  pub items : List Slot

-- The places for great counts of so many slots: one for each slot; from 2 ^ 18 slots on there may be more, up to 2 ^
-- 21.
pub record ArePlacesFor (slots places : ℕ) : Type 0 where
  pub enough : slots ≤ places
  pub few : slots < 2 ^ 18 → places ≡ slots
  pub most : places ≤ max slots (2 ^ 21)

-- The invariant of packed slots: each number has the bits of a tag above its low bits, and each slot has a place for a
-- great count.
pub record IsPacked (low width places : ℕ) (numbers : List ℕ) : Type 0 where
  pub some_bits : low < width
  pub few_bits : width ≤ 64
  pub places_for : ArePlacesFor (length numbers) places
