-- The records of FASTA and FASTQ: the reads with their titles.
use Rattle.std.specs.Prelude.{◌≡◌, ⊤, ℕ, true, List, [], ◌∷◌, ◌++◌, map, drop, Option, Some, None, Result, Ok, Err}
use Rattle.kc_io.specs.Sources.{Seen}
use Rattle.kc_gzip.specs.Intakes.{TakesAll}
use Rattle.kc_fastx.specs.declared.read_faults.FastxFault.{FastxFault}
use Rattle.kc_fastx.specs.declared.record_reader.Next.{Next}
use Rattle.kc_fastx.specs.declared.record_reader.Next.TheVariants.{Given, End}
use Rattle.kc_fastx.specs.Reads.{Read}
use Rattle.kc_fastx.specs.Lines.{Line, lines, skip_blanks}
use Rattle.kc_fastx.specs.Fasta.{IsFastaRecord}
use Rattle.kc_fastx.specs.Fastq.{IsFastqRecord}
use Rattle.kc_fastx.specs.Parsing.{MatchFormat, HasReads}
use Rattle.kc_fastx.specs.Reading.{Stand, MayCome, HasGiven, MeetsFault}

-- a record: its title, and its read
pub record Record : Type 0 where
  pub title : Line
  pub read : Read

-- the record with this title and this read
abbrev pub record_of : Line → Read → Record
record_of title read = record { title = title; read = read }

-- the reads of records
abbrev pub reads_in : List Record → List Read
reads_in records = map (λ r. r.read) records

-- the first line without its first byte
abbrev pub title_at : List Line → Line
title_at [] = []
title_at (line ∷ ls) = drop 1 line

-- the lines, after blank ones, begin with this record, of FASTA if its first line begins with `>` and otherwise of
-- FASTQ, and the rest follows it
pub record IsRecord (ls : List Line) (this : Record) (rest : List Line) : Type 0 where
  pub title : this.title ≡ title_at (skip_blanks ls)
  pub read : let here = skip_blanks ls in
      MatchFormat here (IsFastaRecord here this.read rest) (IsFastqRecord here this.read rest)

-- the lines are these records, in order, and then the rest
abbrev pub AreRecords : List Line → List Record → List Line → Type 0
AreRecords ls [] rest = ls ≡ rest
AreRecords ls (this ∷ others) rest = (middle : List Line) × IsRecord ls this middle × AreRecords middle others rest

-- the bytes have these records: they have their reads, and the lines are the records, up to blank lines at the end
pub record HasRecords (bytes : List ℕ) (records : List Record) : Type 0 where
  pub reads : HasReads bytes (reads_in records)
  pub rest : List Line
  pub said : AreRecords (lines bytes) records rest
  pub ends : skip_blanks rest ≡ []

-- A reader gave these records of a source that was seen as `start`: it gave their reads, and whatever may still come,
-- the lines of all bytes are the records, and then the lines of the bytes that it did not use.
pub record HasGivenRecords (start now : Seen) (limit : ℕ) (records : List Record) (stand : Stand) : Type 0 where
  pub given : HasGiven start now limit (reads_in records) stand
  pub said : (more : List ℕ) → MayCome stand.ended more
      → AreRecords (lines (stand.unread.came ++ more)) records (lines (stand.unread.bytes ++ more))

-- all bytes of the source were taken, and they have these records
abbrev pub GivesRecords : Seen → Seen → ℕ → List Record → Type 0
GivesRecords start now limit records = (bytes : List ℕ) × TakesAll start now limit bytes × HasRecords bytes records

-- The result of a reader that had given these records: the read of one more record, with this title; or the end, if all
-- bytes were taken and have exactly those records; or a fault.
abbrev pub GivesRecord : Seen → Seen → ℕ → List Record → Stand → Line → Result (Option Read) FastxFault → Type 0
GivesRecord start now limit records stand title (Ok (Some read)) =
    HasGivenRecords start now limit (records ++ record_of title read ∷ []) stand
GivesRecord start now limit records stand title (Ok None) =
    HasGivenRecords start now limit records stand × (stand.ended ≡ true) × GivesRecords start now limit records
GivesRecord start now limit records stand title (Err fault) = MeetsFault start now limit stand fault

-- What the unused bytes alone determine of that result: whatever may still come, they begin with the record of a read
-- that was given; at the end all their lines are blank.
abbrev pub TellsRecord : Stand → Stand → Line → Result Next FastxFault → Type 0
TellsRecord old new title (Ok (Given read)) = (new.ended ≡ old.ended) × (new.unread.came ≡ old.unread.came)
    × ((more : List ℕ) → MayCome old.ended more
    → IsRecord (lines (old.unread.bytes ++ more)) (record_of title read) (lines (new.unread.bytes ++ more)))
TellsRecord old new title (Ok End) =
    (new ≡ old) × (old.ended ≡ true) × (skip_blanks (lines old.unread.bytes) ≡ [])
TellsRecord old new title answer = ⊤
