-- Sanger FASTQ (Cock et al. 2010), with wrapped lines: a title with `@`, the sequence, a line with `+`, and the
-- quality, which is as long as the sequence, and whose lines may also begin with `@` or `+`.
use Rattle.std.specs.Prelude.{◌≡◌, ℕ, ◌+◌, ◌<◌, true, false, List, [], ◌∷◌, ◌++◌, length, take, Some, ◌⊎◌}
use Rattle.std.specs.List.{concat, list_all}
use Rattle.kc_fastx.specs.declared.read_faults.FastxFault.{FastxFault}
use Rattle.kc_fastx.specs.declared.read_faults.FastxFault.TheVariants.{BadStart, BadBase, BadQuality}
use Rattle.kc_fastx.specs.declared.read_faults.FastxFault.TheVariants.{LongQuality, Truncated}
use Rattle.kc_fastx.specs.Reads.{Read, is_quality_byte}
use Rattle.kc_fastx.specs.Lines.{Line, begins_with, skip_blanks}
use Rattle.kc_fastx.specs.Records.{BeginsWithSequence, SequenceFails, IsLineNumber}

-- the byte that begins a title
abbrev pub at_sign : ℕ
at_sign = 64

-- the byte that begins the line between sequence and quality
abbrev pub plus_sign : ℕ
plus_sign = 43

-- the lines, after blank ones, are a title, of which only the first byte matters, and then the body
pub record BeginsWithFastqTitle (ls body : List Line) : Type 0 where
  pub title : Line
  pub whole : skip_blanks ls ≡ title ∷ body
  pub is_title : begins_with at_sign title ≡ true

-- the body begins with the sequence and a line that begins with `+`; the other lines follow
pub record HasPlus (body : List Line) (bases : List ℕ) (after : List Line) : Type 0 where
  pub plus : Line
  pub sequence : BeginsWithSequence plus_sign body bases (plus ∷ after)
  pub is_plus : begins_with plus_sign plus ≡ true

-- the lines begin with quality lines, which have `need` bytes together; without the last of them they are shorter
pub record BeginsWithQuality (need : ℕ) (ls : List Line) (quals : List ℕ) (rest : List Line) : Type 0 where
  pub taken : List Line
  pub split : ls ≡ taken ++ rest
  pub joined : quals ≡ concat taken
  pub accepted : list_all is_quality_byte quals ≡ true
  pub long_enough : length quals ≡ need
  pub fronts_shorter : (i : ℕ) → i < length taken → length (concat (take i taken)) < need

-- the body of a record: the sequence, the line with `+`, and the quality
pub record IsFastqBody (body : List Line) (read : Read) (rest : List Line) : Type 0 where
  pub after : List Line
  pub front : HasPlus body read.bases after
  pub quals : List ℕ
  pub quality : BeginsWithQuality (length read.bases) after quals rest
  pub has_quals : read.quals ≡ Some quals

-- the lines begin with a record: a title and its body
pub record IsFastqRecord (ls : List Line) (read : Read) (rest : List Line) : Type 0 where
  pub body : List Line
  pub title : BeginsWithFastqTitle ls body
  pub record_body : IsFastqBody body read rest

-- quality lines that are still shorter than `need` together, and the rest after them
pub record HasShortQuality (need : ℕ) (ls : List Line) (quals : List ℕ) (rest : List Line) : Type 0 where
  pub taken : List Line
  pub split : ls ≡ taken ++ rest
  pub joined : quals ≡ concat taken
  pub accepted : list_all is_quality_byte quals ≡ true
  pub short : length quals < need

-- the fault of quality lines, of `count` lines in all: after lines that are still too short comes one with a byte that
-- is no quality; or one with which they are too long; or none
abbrev pub QualityFails : ℕ → ℕ → List Line → FastxFault → Type 0
QualityFails count need ls (BadQuality number) =
    (quals : List ℕ) × (line : Line) × (more : List Line) × HasShortQuality need ls quals (line ∷ more)
    × (list_all is_quality_byte line ≡ false) × IsLineNumber count more number
QualityFails count need ls (LongQuality number) =
    (quals : List ℕ) × (line : Line) × (more : List Line) × HasShortQuality need ls quals (line ∷ more)
    × (list_all is_quality_byte line ≡ true) × (need < length quals + length line) × IsLineNumber count more number
QualityFails count need ls (Truncated number) = (quals : List ℕ) × HasShortQuality need ls quals [] × (number ≡ count)
QualityFails count need ls _ = ⊥

-- the quality fails, after a sequence and its line with `+`
abbrev pub FailsBehindPlus : ℕ → List Line → FastxFault → Type 0
FailsBehindPlus count body fault =
    (bases : List ℕ) × (after : List Line) × HasPlus body bases after × QualityFails count (length bases) after fault

-- the sequence lines go on to the end, which is line `count`
abbrev pub EndsInSequence : ℕ → List Line → ℕ → Type 0
EndsInSequence count body number = (bases : List ℕ) × BeginsWithSequence plus_sign body bases [] × (number ≡ count)

-- the fault of a record after its title, of `count` lines in all: that of its sequence, that of its quality, or that
-- the lines end before the one with `+`
abbrev pub FastqBodyFails : ℕ → List Line → FastxFault → Type 0
FastqBodyFails count body (BadBase number) = SequenceFails count plus_sign body (BadBase number)
FastqBodyFails count body (BadQuality number) = FailsBehindPlus count body (BadQuality number)
FastqBodyFails count body (LongQuality number) = FailsBehindPlus count body (LongQuality number)
FastqBodyFails count body (Truncated number) =
    EndsInSequence count body number ⊎ FailsBehindPlus count body (Truncated number)
FastqBodyFails count body _ = ⊥

-- in place of a title there is a line that is neither blank nor a title
pub record HasBadStart (ls more : List Line) : Type 0 where
  pub line : Line
  pub whole : skip_blanks ls ≡ line ∷ more
  pub no_title : begins_with at_sign line ≡ false

-- the fault of the record at the front of the lines, of `count` lines in all
abbrev pub FastqFails : ℕ → List Line → FastxFault → Type 0
FastqFails count ls (BadStart number) = (more : List Line) × HasBadStart ls more × IsLineNumber count more number
FastqFails count ls fault = (body : List Line) × BeginsWithFastqTitle ls body × FastqBodyFails count body fault
