-- The reads of a byte string, or its first fault; the same for a source, and for a list of byte strings.
use Rattle.std.specs.Prelude.{◌≡◌, ℕ, ◌+◌, ◌^◌, List, [], ◌∷◌, ◌++◌, length, MatchBool, Result, MatchResult, ◌⊎◌}
use Rattle.kc_gzip.specs.declared.unpacked_intakes.TakeFault.TheVariants as taking
use Rattle.kc_io.specs.Sources.{Seen}
use Rattle.kc_gzip.specs.Intakes.{TakesAll, TakingFails}
use Rattle.kc_fastx.specs.declared.read_faults.FastxFault.{FastxFault}
use Rattle.kc_fastx.specs.declared.read_faults.FastxFault.TheVariants.{TooLong, Read as ReadFailed, Memory}
use Rattle.kc_fastx.specs.declared.read_faults.FastxFault.TheVariants.{BrokenGzip, ShortGzip}
use Rattle.kc_fastx.specs.Reads.{Read}
use Rattle.kc_fastx.specs.Lines.{Line, lines, next_begins_with, skip_blanks}
use Rattle.kc_fastx.specs.Records.{Records, FaultBehind, FirstFault}
use Rattle.kc_fastx.specs.Fasta.{IsFastaRecord, FastaFails, greater_than}
use Rattle.kc_fastx.specs.Fastq.{IsFastqRecord, FastqFails}

-- the lines that determine the format and contain the records: leading blank lines are skipped
abbrev pub text_lines : List ℕ → List Line
text_lines bytes = skip_blanks (lines bytes)

-- the text is FASTA if its first line begins with `>`, otherwise FASTQ
abbrev pub MatchFormat : List Line → Type 0 → Type 0 → Type 0
MatchFormat ls Fasta Fastq = MatchBool (next_begins_with greater_than ls) Fasta Fastq

-- FASTQ up to the end, where there may be blank lines
pub record IsFastq (ls : List Line) (reads : List Read) : Type 0 where
  pub rest : List Line
  pub records : Records IsFastqRecord ls reads rest
  pub ends : skip_blanks rest ≡ []

-- the bytes have these reads
abbrev pub HasReads : List ℕ → List Read → Type 0
HasReads bytes reads =
    let ls = text_lines bytes in MatchFormat ls (Records IsFastaRecord ls reads []) (IsFastq ls reads)

-- the bytes have no reads: this is their first fault
abbrev pub HasFault : List ℕ → FastxFault → Type 0
HasFault bytes fault =
    let ls = text_lines bytes in
    let count = length (lines bytes) in
    let fasta = FirstFault IsFastaRecord (FastaFails count) ls fault in
    let fastq = FirstFault IsFastqRecord (FastqFails count) ls fault in
    MatchFormat ls fasta fastq

-- the same, and the records before the one with that fault have these reads
abbrev pub HasFaultBehind : List ℕ → List Read → FastxFault → Type 0
HasFaultBehind bytes reads fault =
    let ls = text_lines bytes in
    let count = length (lines bytes) in
    let fasta = FaultBehind IsFastaRecord (FastaFails count) ls reads fault in
    let fastq = FaultBehind IsFastqRecord (FastqFails count) ls reads fault in
    MatchFormat ls fasta fastq

-- the reads of the bytes, or their first fault
abbrev pub IsReadsOf : List ℕ → Result (List Read) FastxFault → Type 0
IsReadsOf bytes answer = MatchResult answer (HasReads bytes) (HasFault bytes)

-- the most bytes of a source, and of all sources of one count together
abbrev pub most_bytes : ℕ
most_bytes = 2 ^ 36

-- all bytes of the source were taken and decompressed; there are `count` of them, with these reads
pub record GivesReads (old new : Seen) (limit : ℕ) (reads : List Read) (count : ℕ) : Type 0 where
  pub bytes : List ℕ
  pub taken : TakesAll old new limit bytes
  pub has_reads : HasReads bytes reads
  pub counted : count ≡ length bytes

-- why `read_all` gave no reads: taking the bytes failed, or all bytes were taken and have this fault. Memory was
-- refused while bytes were taken, of which some came and no read failed, or after that
abbrev pub RefusesFor : Seen → Seen → ℕ → FastxFault → Type 0
RefusesFor old new limit TooLong = TakingFails old new limit taking.TooLong
RefusesFor old new limit ReadFailed = TakingFails old new limit taking.Read
RefusesFor old new limit BrokenGzip = TakingFails old new limit taking.Broken
RefusesFor old new limit ShortGzip = TakingFails old new limit taking.Short
RefusesFor old new limit Memory =
    TakingFails old new limit taking.Memory ⊎ ((bytes : List ℕ) × TakesAll old new limit bytes)
RefusesFor old new limit fault = (bytes : List ℕ) × TakesAll old new limit bytes × HasFault bytes fault

-- source `number`, from 1, is the first that has a fault: those before it `Have` something together, and after that
-- this one `Fails` with the fault
pub record IsFirstFaulty {S R F : Type 0} (Have : List S → R → Type 0) (Fails : R → S → F → Type 0)
    (sources : List S) (number : ℕ) (fault : F) : Type 0 where
  pub before : List S
  pub here : S
  pub after : List S
  pub split : sources ≡ before ++ here ∷ after
  pub counted : number ≡ length before + 1
  pub had : R
  pub earlier : Have before had
  pub fails : Fails had here fault

-- the reads of all sources, joined in order; the list has the bytes of each
abbrev pub HaveReads : List (List ℕ) → List Read → Type 0
HaveReads [] reads = reads ≡ []
HaveReads (bytes ∷ sources) reads =
    (first others : List Read) × HasReads bytes first × HaveReads sources others × (reads ≡ first ++ others)

-- source `number` is the first with a fault, and this is its fault
abbrev pub HaveFault : List (List ℕ) → ℕ → FastxFault → Type 0
HaveFault sources number fault =
    IsFirstFaulty HaveReads (λ reads bytes fault. HasFault bytes fault) sources number fault

-- the reads of all sources, or the first source with a fault and that fault
abbrev pub AreReadsOf : List (List ℕ) → Result (List Read) (ℕ × FastxFault) → Type 0
AreReadsOf sources answer = MatchResult answer (HaveReads sources) (λ first. HaveFault sources first.0 first.1)
