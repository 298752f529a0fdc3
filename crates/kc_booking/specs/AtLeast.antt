-- How many counts are at least c, for each c, and the bins that follow from these numbers.
use Rattle.std.specs.Prelude.{ℕ, ◌+◌, ◌-◌, List, map, count_by, slice_index, slice_set, nat_le, if◌then◌else◌}
use Rattle.std.specs.List.{range_with_len}
use Rattle.kc_tally.specs.Histogram.{last_bin}

-- how many of the counts are at least c
unfoldable pub at_least : List ℕ → ℕ → ℕ
at_least counts c = count_by (λ count. nat_le c count) counts

-- the same for each c from 1 to 10,001
unfoldable pub at_least_of : List ℕ → List ℕ
at_least_of counts = map (λ c. at_least counts c) (range_with_len 1 last_bin)

-- the number at c; 0 at 10,002, for which there is none
abbrev pub number_at : List ℕ → ℕ → ℕ
number_at numbers c = slice_index numbers (c - 1)

-- The size of a bin: the number of counts that are at least the bin's, minus the number of those that are greater. The
-- last bin has all counts from its own on.
abbrev pub difference_at : List ℕ → ℕ → ℕ
difference_at numbers bin = number_at numbers bin - number_at numbers (bin + 1)

-- the bins 1 to 10,001 that follow from these numbers
unfoldable pub bins_from : List ℕ → List ℕ
bins_from numbers = map (λ bin. difference_at numbers bin) (range_with_len 1 last_bin)

-- the numbers with the one at this count changed, if there is one
unfoldable pub changed : (ℕ → ℕ) → List ℕ → ℕ → List ℕ
changed change numbers count =
    if nat_le count last_bin then slice_set numbers (count - 1) (change (number_at numbers count)) else numbers

-- the numbers after a count rose by one, to this value
abbrev pub risen : List ℕ → ℕ → List ℕ
risen numbers count = changed (λ n. n + 1) numbers count

-- the numbers after a count fell by one, from this value
abbrev pub fallen : List ℕ → ℕ → List ℕ
fallen numbers count = changed (λ n. n - 1) numbers count
