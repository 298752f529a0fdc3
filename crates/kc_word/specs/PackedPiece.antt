-- A piece as it is stored: the codes of its bases, and where it has N.
-- Source: this project's own.
use Rattle.std.specs.Prelude.{◌≡◌, ℕ, true, ◌^◌, ◌<◌, ◌≤◌, List, length, map, slice_index, if◌then◌else◌}
use Rattle.std.specs.List.{range_with_len}
use Rattle.kc_kmer.specs.Letter.{base}
use Rattle.kc_word.specs.Cutting.{unusable}
use Rattle.kc_word.specs.declared.runs.Run.{Run}
use Rattle.kc_word.specs.Runs.{is_in_runs, AreRuns, ArePassed}

-- the byte at index i: N in a run, elsewhere the base with the code
abbrev pub byte_at : List ℕ → List Run → ℕ → ℕ
byte_at codes runs i = if is_in_runs runs i then unusable else base (slice_index codes i)

-- the bytes of a piece
unfoldable pub bytes_of : List ℕ → List Run → List ℕ
bytes_of codes runs = map (λ i. byte_at codes runs i) (range_with_len 0 (length codes))

-- the runs lie within the piece, codes are below 4, and the codes under runs are 0
pub record IsPiece (codes : List ℕ) (runs : List Run) : Type 0 where
  pub rising : AreRuns 0 (length codes) runs
  pub below : (i : ℕ) → slice_index codes i < 4
  pub clear : (i : ℕ) → is_in_runs runs i ≡ true → slice_index codes i ≡ 0

-- a place in a piece: its bytes, and how many of them were taken
pub record Reading : Type 0 where
  pub bytes : List ℕ
  pub taken : ℕ

-- the place `at` lies between two indices of this piece, and `next` runs are passed there
pub record IsReading (codes : List ℕ) (runs : List Run) (next from at to : ℕ) : Type 0 where
  pub piece : IsPiece codes runs
  pub passed : ArePassed runs next at
  pub begun : from ≤ at
  pub within : at ≤ to
  pub inside : to ≤ length codes
  pub fits : length codes < 2 ^ 64
