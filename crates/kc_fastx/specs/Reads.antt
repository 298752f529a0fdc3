-- A sequence read: its bases and, if its format has them, a quality for each base.
use Rattle.std.specs.Prelude.{◌≡◌, ℕ, Bool, true, ◌&&◌, ◌||◌, ◌==◌, List, length, Option, None, Some}
use Rattle.std.specs.List.{list_all, sum_by}
use Rattle.std.specs.Char.{is_ascii_alphabetic, is_ascii_graphic}

-- a read: its bases, as in the file, and its quality bytes or None
pub record Read : Type 0 where
  pub bases : List ℕ
  pub quals : Option (List ℕ)

abbrev pub full_stop : ℕ
full_stop = 46

abbrev pub hyphen : ℕ
hyphen = 45

abbrev pub asterisk : ℕ
asterisk = 42

-- a byte that a sequence line may have: a letter, `.`, `-` or `*`
abbrev pub is_sequence_byte : ℕ → Bool
is_sequence_byte b = is_ascii_alphabetic b || b == full_stop || b == hyphen || b == asterisk

-- a byte for a score from 0 to 93: `!` to `~`, 33 to 126 (Cock et al. 2010, Sanger FASTQ)
abbrev pub is_quality_byte : ℕ → Bool
is_quality_byte q = is_ascii_graphic q

-- whether each base has one quality byte, if there are any
abbrev pub has_quality_each : List ℕ → Option (List ℕ) → Bool
has_quality_each bases None = true
has_quality_each bases (Some quals) = length quals == length bases && list_all is_quality_byte quals

-- the invariant of a read: its bases are sequence bytes, and each has a quality byte if there are any
pub record IsRead (read : Read) : Type 0 where
  pub bases : list_all is_sequence_byte read.bases ≡ true
  pub quals : has_quality_each read.bases read.quals ≡ true

-- the read with these bases and qualities
abbrev pub read_of : List ℕ → Option (List ℕ) → Read
read_of bases quals = record { bases = bases; quals = quals }

-- how many bases the reads have together
abbrev pub base_count : List Read → ℕ
base_count reads = sum_by (λ read. length read.bases) reads
