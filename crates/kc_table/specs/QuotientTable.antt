-- The model of `QuotientTable`, how far a search for a key goes, when the table grows, and when it may return `Full`.
use Rattle.std.specs.Prelude.{◌≡◌, ◌≢◌, refl, ℕ, ◌+◌, ◌*◌, ◌^◌, ◌<◌, ◌≤◌, ◌==◌, ◌⊎◌, Bool, true, ◌&&◌, not, min}
use Rattle.std.specs.Prelude.{List, [], ◌∷◌, All, Option, Some, None, length, map, slice_get, slice_index}
use Rattle.std.specs.List.{filter_map, range_with_len, list_all, list_any}
use Rattle.std.specs.FinMap.{from_entries}
use Rattle.kc_table.specs.Counts.{KeyCounts, IsStored}
use Rattle.kc_table.specs.Reprobing.{place}
use Rattle.kc_table.specs.Sizes.{place_count, spread_log, most_log}

-- The contents of a table's slots, in order: nothing, or a key and its count.
abbrev pub SlotList : Type 0
SlotList = List (Option (ℕ × ℕ))

-- a table whose keys have `bits` bits, with 2 ^ log slots, and at most 2 ^ max_log
pub record Table : Type 0 where
  pub bits : ℕ
  pub max_log : ℕ
  pub log : ℕ
  pub slots : SlotList

-- the keys and counts of the slots that are not empty
abbrev pub entries_in : SlotList → List (ℕ × ℕ)
entries_in slots = filter_map (λ slot. slot) slots

entries_in_rows : entries_in (None ∷ Some (5, 2) ∷ None ∷ Some (7, 0) ∷ []) ≡ (5, 2) ∷ (7, 0) ∷ []
entries_in_rows = refl

-- the map in the slots
abbrev pub counts_in : SlotList → KeyCounts
counts_in slots = from_entries (entries_in slots)

-- the slot at this index has the key with this count
abbrev pub Holds : SlotList → ℕ → ℕ → ℕ → Type 0
Holds slots index key count = slice_get slots index ≡ Some (Some (key, count))

-- the slot at this index has the key
abbrev pub HoldsKey : SlotList → ℕ → ℕ → Type 0
HoldsKey slots index key = (count : ℕ) × Holds slots index key count

-- each of the key's first n places has another key
abbrev pub AreTaken : Table → ℕ → ℕ → Type 0
AreTaken table key n =
    (i : ℕ) → i < n → (other : ℕ) × (other ≢ key) × HoldsKey table.slots (place key i table.log) other

-- all places of the key have other keys
abbrev pub IsShutOut : Table → ℕ → Type 0
IsShutOut table key = AreTaken table key place_count

-- A search reads `reads` slots up to this one, which has the key: the places before it have other keys.
abbrev pub IsFoundAfter : Table → ℕ → ℕ → ℕ → Type 0
IsFoundAfter table key reads slot =
    (i : ℕ) × (i < place_count) × (slot ≡ place key i table.log) × AreTaken table key i × (reads ≡ i + 1)

-- the slot at this index is empty
abbrev pub IsEmptyAt : SlotList → ℕ → Type 0
IsEmptyAt slots index = slice_get slots index ≡ Some None

-- A search reads `reads` slots for a key that is not stored: the places with other keys and the empty one after them,
-- or all places, which have other keys.
abbrev pub IsMissedAfter : Table → ℕ → ℕ → Type 0
IsMissedAfter table key reads =
    ((i : ℕ) × (i < place_count) × IsEmptyAt table.slots (place key i table.log) × AreTaken table key i
    × (reads ≡ i + 1))
    ⊎ (IsShutOut table key × (reads ≡ place_count))

-- A search for the key reads `reads` slots, whether it is stored or not: at most as many as it has places.
abbrev pub IsSearchedBy : Table → ℕ → ℕ → Type 0
IsSearchedBy table key reads = ((slot : ℕ) × IsFoundAfter table key reads slot) ⊎ IsMissedAfter table key reads

-- how many different places a key has: all of them, or one for each slot in a smaller table
abbrev pub different_places : ℕ → ℕ
different_places log = min place_count (2 ^ log)

-- whether slot is one of the key's places
abbrev pub is_place_of : ℕ → ℕ → ℕ → Bool
is_place_of log key slot = list_any (λ i. slot == place key i log) (range_with_len 0 place_count)

-- whether the numbers are different
abbrev pub are_different : List ℕ → Bool
are_different [] = true
are_different (n ∷ ns) = list_all (λ m. not (n == m)) ns && are_different ns

-- A crowd: keys that can take all places of a key in a table of 2 ^ log slots. None of them is the key itself, they are
-- different, there are as many as the key has different places, and place i of the key is a place of the i-th of them.
pub record IsCrowdOf (log key : ℕ) (others : List ℕ) : Type 0 where
  pub not_the_key : list_all (λ other. not (other == key)) others ≡ true
  pub different : are_different others ≡ true
  pub as_many : length others ≡ different_places log
  pub meeting :
      list_all (λ i. is_place_of log (slice_index others i) (place key i log)) (range_with_len 0 (length others)) ≡ true

-- in a table of 256 slots, 63 keys with the home 5 are a crowd of one more such key
crowd_row : IsCrowdOf 8 (256 * 63 + 5) (map (λ j. 256 * j + 5) (range_with_len 0 63))
crowd_row = record { not_the_key = refl; different = refl; as_many = refl; meeting = refl }

-- and in a table of 4 slots, 4 keys are a crowd of any other
small_crowd_row : IsCrowdOf 2 7 (3 ∷ 0 ∷ 2 ∷ 1 ∷ [])
small_crowd_row = record { not_the_key = refl; different = refl; as_many = refl; meeting = refl }

-- a key is crowded if all keys of a crowd of it are stored
abbrev pub IsCrowded : KeyCounts → ℕ → ℕ → Type 0
IsCrowded counts log key = (others : List ℕ) × IsCrowdOf log key others × All (IsStored counts) others

-- Some stored key is crowded in a table of 2 ^ log slots.
abbrev pub HasStoredCrowd : ℕ → KeyCounts → Type 0
HasStoredCrowd log counts = (key : ℕ) × IsStored counts key × IsCrowded counts log key

-- A table of 2 ^ log slots may be too small for the stored keys and this one: it has fewer slots than there are keys of
-- so many bits, and this key or a stored one is crowded.
abbrev pub MayBeTooSmall : ℕ → ℕ → KeyCounts → ℕ → Type 0
MayBeTooSmall bits log counts key = (log < bits) × (IsCrowded counts log key ⊎ HasStoredCrowd log counts)

-- A table may be full only if it may not grow to a size that is surely large enough.
abbrev pub MayBeFull : Table → KeyCounts → ℕ → Type 0
MayBeFull table counts key = MayBeTooSmall table.bits table.max_log counts key

-- A table of 2 ^ log slots may grow to 2 ^ max_log, but to no more slots than there are keys. If there are more keys
-- than that, it may grow to so many slots that a key's places are different.
pub record IsWithinLimits (bits log max_log : ℕ) : Type 0 where
  pub larger : log ≤ max_log
  pub few_slots : max_log ≤ most_log
  pub no_wider : max_log ≤ bits
  pub enough_places : max_log < bits → spread_log ≤ max_log
