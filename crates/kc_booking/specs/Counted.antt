-- A table of counts, with the histogram and the sum of its counts.
use Rattle.std.specs.Prelude.{◌≡◌, ℕ, ◌<◌, ◌≤◌, ◌^◌, ◌↔◌, List, length, map, take, fold, sum, slice_index}
use Rattle.std.specs.List.{range_with_len}
use Rattle.std.specs.List.Sorted.{IsPermutation}
use Rattle.kc_table.specs.Counts.{KeyCounts, count_at, added}
use Rattle.kc_tally.specs.Histogram.{bins_of}
use Rattle.kc_booking.specs.AtLeast.{at_least_of, bins_from}

-- a table, the sizes of the bins of its counts, and their sum
pub record TableSeen (C : Type 0) : Type 0 where
  pub table : C
  pub bins : List ℕ
  pub total : ℕ

-- the counts of all keys of so many bits, 0 for those that are not stored
abbrev pub counts_of : ℕ → KeyCounts → List ℕ
counts_of bits counts = map (λ key. count_at counts key) (range_with_len 0 (2 ^ bits))

-- the bins and the total are those of the table's counts
pub record IsCounted (bits : ℕ) (counts : KeyCounts) (bins : List ℕ) (total : ℕ) : Type 0 where
  pub bits_at_most : bits ≤ 62
  pub bins_are : bins ≡ bins_of (counts_of bits counts)
  pub total_is : total ≡ sum (counts_of bits counts)
  pub total_at_most : total ≤ 2 ^ 62

-- The numbers are how many of the table's counts are at least 1, 2 and so on. The total and the bins that follow from
-- them are those of the counts.
pub record IsTold (bits : ℕ) (counts : KeyCounts) (numbers : List ℕ) (total : ℕ) : Type 0 where
  pub numbers_are : numbers ≡ at_least_of (counts_of bits counts)
  pub counted : IsCounted bits counts (bins_from numbers) total

-- the keys have as many bits as before, and the table may be full exactly where it might be before
pub record KeepsLimits {C : Type 0} (bits : C → ℕ) (full : C → KeyCounts → ℕ → Type 0) (old new : C) : Type 0 where
  pub same_bits : bits new ≡ bits old
  pub same_limits : (counts : KeyCounts) (key : ℕ) → full new counts key ↔ full old counts key

-- one is added to the count of each key, in order
abbrev pub all_added : KeyCounts → List ℕ → KeyCounts
all_added counts keys = fold added counts keys

-- one of the keys may be refused after the earlier ones were counted
abbrev pub SomeMayBeFull : (KeyCounts → ℕ → Type 0) → KeyCounts → List ℕ → Type 0
SomeMayBeFull may_be_full counts keys =
    (i : ℕ) × (i < length keys) × may_be_full (all_added counts (take i keys)) (slice_index keys i)

-- the same if the keys are counted in some other order
abbrev pub SomeMayBeFullInSomeOrder : (KeyCounts → ℕ → Type 0) → KeyCounts → List ℕ → Type 0
SomeMayBeFullInSomeOrder may_be_full counts keys =
    (order : List ℕ) × IsPermutation keys order × SomeMayBeFull may_be_full counts order
