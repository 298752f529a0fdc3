-- How many words have which count.
-- Source: what `jellyfish histo` prints with its default bounds, Marçais and Kingsford 2011: a bin for each count from
-- 1 to 10,000, and a last bin, 10,001, for all greater counts.
use Rattle.std.specs.Prelude.{ℕ, ◌+◌, ◌-◌, ◌==◌, min, List, [], ◌∷◌, map, count_by, slice_index, slice_set}
use Rattle.std.specs.Prelude.{if◌then◌else◌}
use Rattle.std.specs.List.{range_with_len}
use Rattle.kc_tally.specs.declared.row.Row.{Row}

-- the number of the last bin, and how many bins there are
abbrev pub last_bin : ℕ
last_bin = 10_001

-- the bin of a count; a count of 0 is in none of the bins 1 to 10,001
abbrev pub bin_of : ℕ → ℕ
bin_of count = min count last_bin

-- how many of the counts are in the bin
unfoldable pub bin_size : List ℕ → ℕ → ℕ
bin_size counts bin = count_by (λ count. bin_of count == bin) counts

-- the sizes of the bins 1 to 10,001
unfoldable pub bins_of : List ℕ → List ℕ
bins_of counts = map (λ bin. bin_size counts bin) (range_with_len 1 last_bin)

-- the size of a bin, among the bins 1 to 10,001
abbrev pub bin_at : List ℕ → ℕ → ℕ
bin_at bins bin = slice_index bins (bin - 1)

-- with one more word in the bin, and with one fewer
abbrev pub gained : List ℕ → ℕ → List ℕ
gained bins bin = slice_set bins (bin - 1) (bin_at bins bin + 1)

abbrev pub lost : List ℕ → ℕ → List ℕ
lost bins bin = slice_set bins (bin - 1) (bin_at bins bin - 1)

-- the bins with one more count; a count of 0 is in no bin
unfoldable pub counted_in : List ℕ → ℕ → List ℕ
counted_in bins count = if count == 0 then bins else gained bins (bin_of count)

-- the bins after a word's count went from `count` to `count + 1`; a word with the count 0 was in no bin
unfoldable pub raised : List ℕ → ℕ → List ℕ
raised bins count = gained (if count == 0 then bins else lost bins (bin_of count)) (bin_of (count + 1))

-- the sums of the sizes, bin by bin
unfoldable pub joined_bins : List ℕ → List ℕ → List ℕ
joined_bins (size ∷ sizes) (more ∷ others) = (size + more) ∷ joined_bins sizes others
joined_bins (size ∷ sizes) [] = []
joined_bins [] others = []

-- the counts of rows
abbrev pub counts_of : List Row → List ℕ
counts_of rows = map (λ row. row.count) rows

-- how many rows have a count in the bin
abbrev pub bin_count : List Row → ℕ → ℕ
bin_count rows bin = count_by (λ row. bin_of row.count == bin) rows
