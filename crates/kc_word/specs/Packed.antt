-- Bases packed into numbers of 64 bits: 32 bases in each number, two bits a base, the first base in the highest two.
-- Source: this project's own, with the two-bit codes of the Jellyfish paper (Marçais and Kingsford 2011).
use Rattle.std.specs.Prelude.{◌≡◌, ℕ, ◌+◌, ◌-◌, ◌*◌, ◌/◌, ◌%◌, ◌^◌, ◌≤◌, List, length, map, slice_index}
use Rattle.std.specs.List.{range_with_len}

-- how many numbers n bases take
abbrev pub number_count : ℕ → ℕ
number_count n = (n + 31) / 32

-- code i of a number, for i from 0 to 31: two bits, above those of the later bases
abbrev pub code_in : ℕ → ℕ → ℕ
code_in number i = number / 2 ^ (62 - 2 * i) % 4

-- the first n codes of a number
unfoldable pub codes_in : ℕ → ℕ → List ℕ
codes_in number n = map (λ i. code_in number i) (range_with_len 0 n)

-- the code of base i; 0 past the last number
abbrev pub code_at : List ℕ → ℕ → ℕ
code_at numbers i = code_in (slice_index numbers (i / 32)) (i % 32)

-- the codes of the first n bases
unfoldable pub codes_of : List ℕ → ℕ → List ℕ
codes_of numbers n = map (λ i. code_at numbers i) (range_with_len 0 n)

-- there are as many numbers as n bases take, and all bits after the last base are 0
pub record ArePacked (numbers : List ℕ) (n : ℕ) : Type 0 where
  pub exact : length numbers ≡ number_count n
  pub clear : (i : ℕ) → n ≤ i → code_at numbers i ≡ 0
