-- The spectrum of copy numbers while words come, and its lines.
-- Source: our formats page (`compare --matrix`). It is the spectrum of Merqury (Rhie et al. 2020).
use Rattle.std.specs.Prelude.{◌≡◌, ℕ, ◌+◌, ◌*◌, ◌<◌, List, length, slice_index, take, drop, flat_map}
use Rattle.std.specs.List.{range_with_len}
use Rattle.kc_combine.specs.Compared.{capped, copies_line, words_with}

pub record SpectrumSeen : Type 0 where
  -- the greatest count in the reads that has cells of its own
  pub high : ℕ
  -- how many words have each count in the reads from 0 to one above `high`: with 0 copies, then with 1, up to 5
  pub cells : List ℕ
  -- for how many cells there is room
  pub room : ℕ

-- the place of the cell of these copies and this count
abbrev pub place_of : ℕ → ℕ → ℕ → ℕ
place_of high copies count = copies * (high + 2) + count

-- the cells are those of words with these counts, as far as they fit
abbrev pub HasCells : ℕ → List ℕ → List (List ℕ) → Type 0
HasCells high cells words = (copies count : ℕ) → copies < 6 → count < high + 2
    → slice_index cells (place_of high copies count) ≡ capped (words_with high words copies count)

-- the same of a spectrum
abbrev pub HasSpectrum : SpectrumSeen → List (List ℕ) → Type 0
HasSpectrum spectrum words = HasCells spectrum.high spectrum.cells words

-- the lines of these copies, given how many words have each count from 0 on
unfoldable pub row_text : ℕ → List ℕ → List ℕ
row_text copies words =
    flat_map (λ count. copies_line copies count (slice_index words count)) (range_with_len 0 (length words))

-- the lines of 0 to 5 copies, each with so many of the cells
unfoldable pub rows_text : ℕ → List ℕ → List ℕ
rows_text width cells =
    flat_map (λ copies. row_text copies (take width (drop (copies * width) cells))) (range_with_len 0 6)
