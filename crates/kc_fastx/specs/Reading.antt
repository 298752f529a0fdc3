-- Reading a source read by read: what was given so far, and what is still to be read.
use Rattle.std.specs.Prelude.{◌≡◌, ◌≢◌, ⊤, ℕ, ◌+◌, ◌<◌, ◌≤◌, ◌&&◌, Bool, true, false, not, List, [], ◌∷◌, ◌++◌, length}
use Rattle.std.specs.Prelude.{MatchBool, ◌⊎◌}
use Rattle.std.specs.Prelude.{Option, Some, None, Result, Ok, Err}
use Rattle.kc_gzip.specs.declared.unpacked_intakes.TakeFault.{TakeFault}
use Rattle.kc_io.specs.Sources.{Seen}
use Rattle.kc_gzip.specs.Intakes.{Ended, Filled, FillingFails, TakenSoFar, Unread, nothing_taken}
use Rattle.kc_fastx.specs.declared.read_faults.FastxFault.{FastxFault}
use Rattle.kc_fastx.specs.declared.read_faults.FastxFault.TheVariants.{Truncated, TooLong, Read as ReadFailed, Memory}
use Rattle.kc_fastx.specs.declared.read_faults.FastxFault.TheVariants.{BrokenGzip, ShortGzip}
use Rattle.kc_fastx.specs.Reads.{Read}
use Rattle.kc_fastx.specs.Lines.{Line, lines, next_begins_with, ends_or_begins_with, skip_blanks, HasWhole}
use Rattle.kc_fastx.specs.Lines.{HasLongestWhole}
use Rattle.kc_fastx.specs.Records.{Records}
use Rattle.kc_fastx.specs.declared.record_reader.Next.{Next}
use Rattle.kc_fastx.specs.declared.record_reader.Next.TheVariants.{Given, End, Short}
use Rattle.kc_fastx.specs.Fasta.{IsFastaRecord, FastaFails, greater_than}
use Rattle.kc_fastx.specs.Fastq.{IsFastqRecord, FastqFails, at_sign}
use Rattle.kc_fastx.specs.Parsing.{HasFault, HasFaultBehind, GivesReads, RefusesFor}
use Rattle.kc_fastx.specs.Faults.{taking_fault}

-- the state of a reader
pub record Stand : Type 0 where
  -- the bytes that it took and has not used yet, and how many more it may take
  pub unread : Unread
  -- how many bytes it used, and how many lines they have
  pub used : ℕ
  pub lines_used : ℕ
  -- whether the reads that it gave are FASTQ
  pub is_fastq : Bool
  -- whether the source returned its end
  pub ended : Bool
  -- the fault that it keeps, and returns from then on
  pub failed : Option FastxFault

-- the state before any byte is taken, if `limit` bytes may be
abbrev pub first_stand : ℕ → Stand
first_stand limit = record {
  unread = nothing_taken limit;
  used = 0;
  lines_used = 0;
  is_fastq = false;
  ended = false;
  failed = None;
}

-- the lines, after blank ones, are FASTA records with these reads, and then the rest
abbrev pub SaysFasta : List Line → List Read → List Line → Type 0
SaysFasta ls reads rest = (next_begins_with greater_than (skip_blanks ls) ≡ true)
    × Records IsFastaRecord (skip_blanks ls) reads rest × (ends_or_begins_with greater_than rest ≡ true)

-- the same for FASTQ
abbrev pub SaysFastq : List Line → List Read → List Line → Type 0
SaysFastq ls reads rest =
    (next_begins_with greater_than (skip_blanks ls) ≡ false) × Records IsFastqRecord (skip_blanks ls) reads rest

-- the lines are records with these reads, and then the rest; if no record was read, the rest is all of them
abbrev pub Says : Bool → List Line → List Read → List Line → Type 0
Says true ls reads rest = SaysFastq ls reads rest
Says false ls reads rest = ((reads ≡ []) × (rest ≡ ls)) ⊎ SaysFasta ls reads rest

-- what may still come: nothing if the source returned its end
abbrev pub MayCome : Bool → List ℕ → Type 0
MayCome ended more = ended ≡ true → more ≡ []

-- these bytes were taken: all bytes if the source returned its end
pub record HasTaken (start now : Seen) (limit : ℕ) (stand : Stand) (bytes : List ℕ) : Type 0 where
  pub taken : TakenSoFar start now limit stand.unread bytes
  pub whole : stand.ended ≡ true → Ended stand.unread
  pub room : length bytes + stand.unread.room ≡ limit

-- the lines of these bytes are records with these reads, and then the lines of the rest
pub record AreSaid (stand : Stand) (bytes : List ℕ) (reads : List Read) (rest : List ℕ) : Type 0 where
  pub counted : length (lines bytes) ≡ stand.lines_used + length (lines rest)
  pub says : Says stand.is_fastq (lines bytes) reads (lines rest)

-- A reader with this limit gave these reads of a source that was seen as `start`: whatever may still come, the lines of
-- all bytes are records with these reads, and then the lines of the bytes that it did not use.
pub record HasGiven (start now : Seen) (limit : ℕ) (reads : List Read) (stand : Stand) : Type 0 where
  pub used : List ℕ
  pub taken : HasTaken start now limit stand (used ++ stand.unread.bytes)
  pub counted : stand.used ≡ length used
  pub unfailed : stand.failed ≡ None
  pub said : (more : List ℕ) → MayCome stand.ended more
      → AreSaid stand (used ++ stand.unread.bytes ++ more) reads (stand.unread.bytes ++ more)

-- whatever may still come after the bytes that were taken, this is the first fault of all bytes
pub record HasMet (start now : Seen) (limit : ℕ) (stand : Stand) (fault : FastxFault) : Type 0 where
  pub bytes : List ℕ
  pub taken : HasTaken start now limit stand bytes
  pub met : (more : List ℕ) → MayCome stand.ended more → HasFault (bytes ++ more) fault

-- the view of a reader and its source
pub record Reader : Type 0 where
  pub source : Seen
  pub stand : Stand

-- whether the next record is FASTA: no FASTQ was read, and the line begins with `>`
abbrev pub is_fasta_next : Bool → List Line → Bool
is_fasta_next is_fastq ls = not is_fastq && next_begins_with greater_than ls

-- the next record of these lines, of which the first isn't blank, and whether it is FASTQ; None if there are no lines
abbrev pub IsNext : Bool → List Line → Option (Read × Bool) → List Line → Type 0
IsNext is_fastq ls None rest = ls ≡ []
IsNext is_fastq ls (Some next) rest = MatchBool (is_fasta_next is_fastq ls)
    (IsFastaRecord ls next.0 rest × (next.1 ≡ false)) (IsFastqRecord ls next.0 rest × (next.1 ≡ true))

-- the fault of that record, of `count` lines in all
abbrev pub NextFails : Bool → ℕ → List Line → FastxFault → Type 0
NextFails is_fastq count ls fault =
    MatchBool (is_fasta_next is_fastq ls) (FastaFails count ls fault) (FastqFails count ls fault)

-- the result holds whatever follows the lines of which `left` are left: the record is not the last one, or the fault is
-- not that the lines end
abbrev pub IsSure : Result (Option (Read × Bool)) FastxFault → List Line → Type 0
IsSure (Ok (Some next)) left = left ≢ []
IsSure (Ok None) left = ⊥
IsSure (Err (Truncated line)) left = ⊥
IsSure (Err fault) left = ⊤

-- the record is the last of these lines, or they end inside it, or there is none
abbrev pub EndInRecord : Bool → List Line → Type 0
EndInRecord is_fastq ls = ((next : Option (Read × Bool)) × IsNext is_fastq ls next [])
    ⊎ ((count line : ℕ) × NextFails is_fastq count ls (Truncated line))

-- In these bytes, with more to come, no record is known to be whole: among the lines that are whole, after blank ones,
-- no line follows the first record.
pub record HoldNoRecord (is_fastq : Bool) (bytes : List ℕ) : Type 0 where
  pub whole : List ℕ
  pub has_whole : HasLongestWhole bytes whole
  pub ends : EndInRecord is_fastq (skip_blanks (lines whole))

-- a reader that needs more bytes has no whole record
abbrev pub WantsMore : Stand → Result Next FastxFault → Type 0
WantsMore stand (Ok Short) = HoldNoRecord stand.is_fastq stand.unread.bytes
WantsMore stand answer = ⊤

-- why a result is not certain
abbrev pub IsUnsure : Result (Option (Read × Bool)) FastxFault → List Line → Type 0
IsUnsure (Ok (Some next)) left = left ≡ []
IsUnsure (Ok None) left = ⊤
IsUnsure (Err (Truncated line)) left = ⊤
IsUnsure (Err fault) left = ⊥

-- a record begins with the first of these lines
abbrev pub BeginsTitle : Bool → List Line → Type 0
BeginsTitle is_fastq ls = (is_fasta_next is_fastq ls ≡ true) ⊎ (next_begins_with at_sign ls ≡ true)

-- after blank lines, a record begins at the front of the unused bytes
pub record BeginsRecord (stand : Stand) : Type 0 where
  pub whole : List ℕ
  pub has_whole : HasWhole stand.ended stand.unread.bytes whole
  pub title : BeginsTitle stand.is_fastq (skip_blanks (lines whole))

-- For what memory was refused: for bytes of a source that had not returned its end, and this fault is kept; or for the
-- text of a record, which begins at the front of the unused bytes.
abbrev pub LacksMemory : Stand → Type 0
LacksMemory stand = ((stand.ended ≡ false) × (stand.failed ≡ Some Memory)) ⊎ BeginsRecord stand

-- how many bytes a block has
abbrev pub block_size : ℕ
block_size = 65536

-- more bytes follow those that were there: at most as many again and a block
pub record AtMostDoubles (before after : Stand) : Type 0 where
  pub more : List ℕ
  pub behind : after.unread.bytes ≡ before.unread.bytes ++ more
  pub few : length more ≤ length before.unread.bytes + block_size
  pub used : after.used ≡ before.used

-- the bytes used are a prefix of those that were there
pub record UsesFront (old new : Stand) : Type 0 where
  pub front : List ℕ
  pub split : old.unread.bytes ≡ front ++ new.unread.bytes
  pub counted : new.used ≡ old.used + length front

-- The bytes that were taken came in steps, of which `last` was the last one: those that were there before it contain no
-- whole record, and it brought at most as many again and a block.
pub record CameInSteps (old : Stand) (taken : List ℕ) : Type 0 where
  pub first : List ℕ
  pub last : List ℕ
  pub split : taken ≡ first ++ last
  pub no_record : HoldNoRecord old.is_fastq (old.unread.bytes ++ first)
  pub few : length last ≤ length (old.unread.bytes ++ first) + block_size

-- What a call took and kept: it took bytes only after some that contain no whole record, in steps. A prefix of all
-- bytes that were then there was used, and the rest is kept.
pub record TakesFew (old new : Stand) : Type 0 where
  pub taken : List ℕ
  pub used : List ℕ
  pub behind : old.unread.bytes ++ taken ≡ used ++ new.unread.bytes
  pub counted : new.used ≡ old.used + length used
  pub few : (taken ≡ []) ⊎ CameInSteps old taken

-- more bytes came after those that were there: at least one, or all up to the end
pub record HasGrown (old new : Seen) (before after : Stand) : Type 0 where
  pub filled : Filled old new before.unread after.unread
  pub whole : after.ended ≡ true → Ended after.unread
  pub some : MatchBool after.ended ⊤ (0 < length filled.more)
  pub used : after.used ≡ before.used
  pub lines_used : after.lines_used ≡ before.lines_used
  pub is_fastq : after.is_fastq ≡ before.is_fastq
  pub unfailed : after.failed ≡ None

-- why no read is given
abbrev pub MeetsFault : Seen → Seen → ℕ → Stand → FastxFault → Type 0
MeetsFault start now limit stand TooLong = RefusesFor start now limit TooLong
MeetsFault start now limit stand ReadFailed = RefusesFor start now limit ReadFailed
MeetsFault start now limit stand Memory = RefusesFor start now limit Memory
MeetsFault start now limit stand BrokenGzip = RefusesFor start now limit BrokenGzip
MeetsFault start now limit stand ShortGzip = RefusesFor start now limit ShortGzip
MeetsFault start now limit stand fault = HasMet start now limit stand fault

-- A fault of the lines is that of the record after those with these reads, whatever may still follow the bytes that
-- came. The other faults belong to no record.
abbrev pub ComesBehind : List Read → Stand → FastxFault → Type 0
ComesBehind reads stand TooLong = ⊤
ComesBehind reads stand ReadFailed = ⊤
ComesBehind reads stand Memory = ⊤
ComesBehind reads stand BrokenGzip = ⊤
ComesBehind reads stand ShortGzip = ⊤
ComesBehind reads stand fault =
    (more : List ℕ) → MayCome stand.ended more → HasFaultBehind (stand.unread.came ++ more) reads fault

-- The result of a reader that had given these reads: one more read; or the end, if all bytes were taken and have
-- exactly those reads; or a fault.
abbrev pub GivesNext : Seen → Seen → ℕ → List Read → Stand → Result (Option Read) FastxFault → Type 0
GivesNext start now limit reads stand (Ok (Some read)) = HasGiven start now limit (reads ++ read ∷ []) stand
GivesNext start now limit reads stand (Ok None) =
    HasGiven start now limit reads stand × GivesReads start now limit reads (stand.used + length stand.unread.bytes)
GivesNext start now limit reads stand (Err fault) = MeetsFault start now limit stand fault

-- What the unused bytes alone determine of that result: nothing yet, if more may come and there is no whole record.
abbrev pub TellsNext : Seen → Seen → ℕ → List Read → Stand → Result Next FastxFault → Type 0
TellsNext start now limit reads stand (Ok (Given read)) = GivesNext start now limit reads stand (Ok (Some read))
TellsNext start now limit reads stand (Ok End) = GivesNext start now limit reads stand (Ok None)
TellsNext start now limit reads stand (Ok Short) = HasGiven start now limit reads stand
TellsNext start now limit reads stand (Err fault) = MeetsFault start now limit stand fault

-- A read that was given used some bytes. A reader that needs more bytes is unchanged, and more may come. One that met a
-- fault is unchanged.
abbrev pub Moves : Stand → Stand → Result Next FastxFault → Type 0
Moves old new (Ok (Given read)) = old.used < new.used
Moves old new (Ok Short) = (new ≡ old) × (new.ended ≡ false)
Moves old new (Err fault) = new ≡ old
Moves old new answer = ⊤

-- More bytes were taken after those that were there: some, or all up to the end. Otherwise, why none could be taken,
-- and this is kept.
abbrev pub Grows : Seen → Seen → Stand → Stand → Result (Unit {0}) TakeFault → Type 0
Grows old new before after (Ok done) = HasGrown old new before after
Grows old new before after (Err why) =
    FillingFails old new before.unread why × (after.failed ≡ Some (taking_fault why))
