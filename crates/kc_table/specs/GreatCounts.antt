-- The counts that are too large for their slots: entries of a place and a count, linked in buckets by their places.
use Rattle.std.specs.Prelude.{◌≡◌, ◌≢◌, refl, ℕ, ◌-◌, ◌/◌, ◌<◌, ◌≤◌, ◌==◌, if◌then◌else◌, max, bit_and}
use Rattle.std.specs.Prelude.{List, [], ◌∷◌, length, map, slice_index_or}
use Rattle.kc_table.specs.declared.great_counts.Entry.{Entry}

-- Counts with their places, which are below `places`.
pub record Greats : Type 0 where
  pub places : ℕ
  pub counts : List (ℕ × ℕ)

-- the place and the count of each entry
abbrev pub counts_in : List Entry → List (ℕ × ℕ)
counts_in entries = map (λ (e : Entry). (e.place, e.count)) entries

-- The count of a place: that of the first entry with this place, 0 if there is none.
abbrev pub great_count : List (ℕ × ℕ) → ℕ → ℕ
great_count [] place = 0
great_count (e ∷ es) place = if e.0 == place then e.1 else great_count es place

great_rows : (great_count ((5, 300) ∷ (2, 70000) ∷ []) 2 ≡ 70000) × (great_count ((5, 300) ∷ []) 2 ≡ 0)
great_rows = (refl, refl)

abbrev pub no_entry : Entry
no_entry = record { place = 0; count = 0; next = 0 }

abbrev pub place_at : List Entry → ℕ → ℕ
place_at entries i = (slice_index_or entries i no_entry).place

abbrev pub next_at : List Entry → ℕ → ℕ
next_at entries i = (slice_index_or entries i no_entry).next

-- The bucket of a place: its low bits; the number of buckets is a power of 2.
abbrev pub bucket_of : ℕ → ℕ → ℕ
bucket_of buckets place = bit_and place (buckets - 1)

bucket_rows : (bucket_of 8 21 ≡ 5) × (bucket_of 1 21 ≡ 0)
bucket_rows = (refl, refl)

-- A link from entry n to the last entry of a bucket before it: one more than the index of that entry, or 0 if there is
-- none. `bucket_at` is the bucket of each entry.
pub record IsLink (bucket_at : ℕ → ℕ) (bucket n link : ℕ) : Type 0 where
  pub within : link ≤ n
  pub same : link ≢ 0 → bucket_at (link - 1) ≡ bucket
  pub none : (i : ℕ) → link ≤ i → i < n → bucket_at i ≢ bucket

-- The first n entries are linked: the head of each bucket links to its last entry, and each entry to the one before it
-- in its bucket.
pub record IsLinked (heads : List ℕ) (entries : List Entry) (n : ℕ) : Type 0 where
  pub head : (b : ℕ) → b < length heads
      → IsLink (λ i. bucket_of (length heads) (place_at entries i)) b n (slice_index_or heads b 0)
  pub next : (i : ℕ) → i < n
      → IsLink (λ j. bucket_of (length heads) (place_at entries j)) (bucket_of (length heads) (place_at entries i)) i
      (next_at entries i)

-- there is at least one bucket, and all entries are linked
pub record IsChained (heads : List ℕ) (entries : List Entry) : Type 0 where
  pub some : 0 < length heads
  pub linked : IsLinked heads entries (length entries)

-- the place of the i-th of the counts
abbrev pub place_in : List (ℕ × ℕ) → ℕ → ℕ
place_in counts i = (slice_index_or counts i (0, 0)).0

-- the counts have different places, each below `places`
pub record AreApart (places : ℕ) (counts : List (ℕ × ℕ)) : Type 0 where
  pub apart : (i j : ℕ) → i < j → j < length counts → place_in counts i ≢ place_in counts j
  pub inside : (i : ℕ) → i < length counts → place_in counts i < places

-- All entries are linked, their places differ, and the heads have room for an eighth of the places, at least for one.
pub record IsGreatCounts (places room : ℕ) (heads : List ℕ) (entries : List Entry) : Type 0 where
  pub chained : IsChained heads entries
  pub apart : AreApart places (counts_in entries)
  pub roomy : room ≡ max 1 (places / 8)
