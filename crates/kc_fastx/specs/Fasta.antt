-- FASTA (our formats page): a record is a line that begins with `>`, and the lines up to the next such line or the end.
use Rattle.std.specs.Prelude.{◌≡◌, ℕ, true, List, ◌∷◌, None}
use Rattle.kc_fastx.specs.declared.read_faults.FastxFault.{FastxFault}
use Rattle.kc_fastx.specs.Reads.{Read}
use Rattle.kc_fastx.specs.Lines.{Line, begins_with, ends_or_begins_with}
use Rattle.kc_fastx.specs.Records.{BeginsWithSequence, SequenceFails}

-- the byte that begins a title
abbrev pub greater_than : ℕ
greater_than = 62

-- the lines are a title, of which only the first byte matters, and then the body
pub record BeginsWithFastaTitle (ls body : List Line) : Type 0 where
  pub title : Line
  pub whole : ls ≡ title ∷ body
  pub is_title : begins_with greater_than title ≡ true

-- the lines begin with a record: a title and its sequence, up to the next title or the end
pub record IsFastaRecord (ls : List Line) (read : Read) (rest : List Line) : Type 0 where
  pub body : List Line
  pub title : BeginsWithFastaTitle ls body
  pub sequence : BeginsWithSequence greater_than body read.bases rest
  pub ends : ends_or_begins_with greater_than rest ≡ true
  pub no_quals : read.quals ≡ None

-- the fault of the record at the front of the lines, of `count` lines in all: that of its sequence
abbrev pub FastaFails : ℕ → List Line → FastxFault → Type 0
FastaFails count ls fault =
    (body : List Line) × BeginsWithFastaTitle ls body × SequenceFails count greater_than body fault
