-- The common part of FASTA and FASTQ: records that follow one another, and the sequence lines of a record.
use Rattle.std.specs.Prelude.{◌≡◌, ℕ, ◌+◌, true, false, List, [], ◌∷◌, ◌++◌, length}
use Rattle.std.specs.List.{concat, list_all, list_any}
use Rattle.kc_fastx.specs.declared.read_faults.FastxFault.{FastxFault}
use Rattle.kc_fastx.specs.declared.read_faults.FastxFault.TheVariants.{BadBase}
use Rattle.kc_fastx.specs.Reads.{Read, is_sequence_byte}
use Rattle.kc_fastx.specs.Lines.{Line, begins_with}

-- a format's form of a record: the lines begin with a record of this read, and the rest follows it
abbrev pub RecordForm : Type 1
RecordForm = List Line → Read → List Line → Type 0

-- the lines are records of these reads, in order, and then the rest
abbrev pub Records : RecordForm → List Line → List Read → List Line → Type 0
Records Record ls [] rest = ls ≡ rest
Records Record ls (read ∷ reads) rest = (middle : List Line) × Record ls read middle × Records Record middle reads rest

-- the lines begin with sequence lines: none of them begins with the byte `stop`, all have only sequence bytes, and
-- joined they are the bases; the rest follows them
pub record BeginsWithSequence (stop : ℕ) (ls : List Line) (bases : List ℕ) (rest : List Line) : Type 0 where
  pub sequence : List Line
  pub split : ls ≡ sequence ++ rest
  pub none_stops : list_any (begins_with stop) sequence ≡ false
  pub joined : bases ≡ concat sequence
  pub accepted : list_all is_sequence_byte bases ≡ true

-- after sequence lines comes a line of the sequence with some other byte; `more` follows it
pub record HasBadSequence (stop : ℕ) (ls : List Line) (more : List Line) : Type 0 where
  pub bases : List ℕ
  pub line : Line
  pub before : BeginsWithSequence stop ls bases (line ∷ more)
  pub goes_on : begins_with stop line ≡ false
  pub bad : list_all is_sequence_byte line ≡ false

-- the line before `more` is number `number` of `count` lines
abbrev pub IsLineNumber : ℕ → List Line → ℕ → Type 0
IsLineNumber count more number = number + length more ≡ count

-- the fault of sequence lines, of `count` lines in all: a bad base, with its line
abbrev pub SequenceFails : ℕ → ℕ → List Line → FastxFault → Type 0
SequenceFails count stop ls (BadBase number) =
    (more : List Line) × HasBadSequence stop ls more × IsLineNumber count more number
SequenceFails count stop ls _ = ⊥

-- whole records with these reads, and then one with a fault
abbrev pub FaultBehind : RecordForm → (List Line → FastxFault → Type 0) → List Line → List Read → FastxFault → Type 0
FaultBehind Record Fails ls reads fault = (here : List Line) × Records Record ls reads here × Fails here fault

-- whole records, and then one with a fault
abbrev pub FirstFault : RecordForm → (List Line → FastxFault → Type 0) → List Line → FastxFault → Type 0
FirstFault Record Fails ls fault =
    (reads : List Read) × (here : List Line) × Records Record ls reads here × Fails here fault
