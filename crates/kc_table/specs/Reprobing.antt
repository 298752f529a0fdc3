-- The places of a key in a table of 2 ^ log slots, in the order in which they are tried (the reprobing of Marçais and
-- Kingsford 2011), and what a search finds there.
use Rattle.std.specs.Prelude.{◌≡◌, ◌≢◌, refl, ℕ, ◌+◌, ◌-◌, ◌*◌, ◌/◌, ◌%◌, ◌^◌, ◌<◌}
use Rattle.kc_table.specs.declared.reprobes.Reprobing.{Reprobing}
use Rattle.kc_table.specs.declared.reprobes.Reprobing.TheVariants.{Found, Free, Crowded}
use Rattle.kc_table.specs.Sizes.{place_count, tag_step, part_bits}

-- the sum of the numbers up to i
abbrev pub triangle : ℕ → ℕ
triangle i = i * (i + 1) / 2

-- A key's home is its low bits. Its place i is triangle(i) slots after its home, around the end of the table.
abbrev pub place : ℕ → ℕ → ℕ → ℕ
place key i log = (key % 2 ^ log + triangle i) % 2 ^ log

-- the first places of the keys 5, 261 and 773 in a table of 256 slots, and one around its end
place_rows : (place 5 0 8 ≡ 5) × (place 261 1 8 ≡ 6) × (place 773 3 8 ≡ 11) × (place 255 2 8 ≡ 2)
place_rows = (refl, refl, refl, refl)

-- The part of a table that has a key's home. A table has 1,024 parts with equally many slots, in order; a smaller table
-- has a part for each slot.
abbrev pub home_part : ℕ → ℕ → ℕ
home_part log key = key % 2 ^ log / 2 ^ (log - part_bits)

-- a table of 4,096 slots has 4 in each part, and one of 256 slots has 1
part_rows : (home_part 12 4103 ≡ 1) × (home_part 12 4095 ≡ 1023) × (home_part 8 773 ≡ 5)
part_rows = (refl, refl, refl)

-- slot is one of the key's places
abbrev pub IsPlaceOf : ℕ → ℕ → ℕ → Type 0
IsPlaceOf log key slot = (i : ℕ) × (i < place_count) × (slot ≡ place key i log)

-- the tag of a key at its place i; the tag of an empty slot is 0
abbrev pub tag_of : ℕ → ℕ → ℕ → ℕ
tag_of log key i = key / 2 ^ log * tag_step + (i + 1)

-- the number of the place at which the key with this tag is
abbrev pub reprobe_of : ℕ → ℕ
reprobe_of tag = tag % tag_step - 1

-- the key's place j has another key
pub record IsTaken (log : ℕ) (tag : ℕ → ℕ) (key j : ℕ) : Type 0 where
  pub some : tag (place key j log) ≢ 0
  pub other : tag (place key j log) ≢ tag_of log key j

-- the key is in this slot
pub record IsFound (log : ℕ) (tag : ℕ → ℕ) (key slot : ℕ) : Type 0 where
  pub reprobe : ℕ
  pub small : reprobe < place_count
  pub here : slot ≡ place key reprobe log
  pub is : tag slot ≡ tag_of log key reprobe

-- the key's first place that is not taken is this empty slot, and `new` is the key's tag there
pub record IsFree (log : ℕ) (tag : ℕ → ℕ) (key slot new : ℕ) : Type 0 where
  pub reprobe : ℕ
  pub small : reprobe < place_count
  pub here : slot ≡ place key reprobe log
  pub is : new ≡ tag_of log key reprobe
  pub empty : tag slot ≡ 0
  pub before : (j : ℕ) → j < reprobe → IsTaken log tag key j

-- the key's first n places are taken
abbrev pub AreTakenBefore : ℕ → (ℕ → ℕ) → ℕ → ℕ → Type 0
AreTakenBefore log tag key n = (j : ℕ) → j < n → IsTaken log tag key j

-- all places of the key are taken
abbrev pub IsOut : ℕ → (ℕ → ℕ) → ℕ → Type 0
IsOut log tag key = AreTakenBefore log tag key place_count

-- what a search found at the key's places after it read so many of them
abbrev pub IsReprobing : ℕ → (ℕ → ℕ) → ℕ → ℕ → Reprobing → Type 0
IsReprobing log tag key reads (Found place) =
    (found : IsFound log tag key place) × AreTakenBefore log tag key found.reprobe × (reads ≡ found.reprobe + 1)
IsReprobing log tag key reads (Free place new) = (free : IsFree log tag key place new) × (reads ≡ free.reprobe + 1)
IsReprobing log tag key reads Crowded = IsOut log tag key × (reads ≡ place_count)
