-- Reading a table text row by row: the rows that were given so far, and what is kept of them. Source: our formats page
-- ("The table text").
use Rattle.std.specs.Prelude.{◌≡◌, ℕ, ◌+◌, ◌^◌, ◌<◌, ◌≤◌, Bool, false, List, [], ◌∷◌, ◌++◌, length, take, drop}
use Rattle.std.specs.Prelude.{Option, Some, None, Result, Ok, Err, IfSome}
use Rattle.kc_gzip.specs.declared.unpacked_intakes.TakeFault.TheVariants as taking
use Rattle.kc_io.specs.Sources.{Seen}
use Rattle.kc_gzip.specs.Intakes.{Unread, TakenSoFar, TakesAll, TakingFails}
use Rattle.kc_kmer.specs.Word.{text, form}
use Rattle.kc_tally.specs.declared.row.Row.{Row}
use Rattle.kc_tally.specs.Tally.{TallySeen, total_of}
use Rattle.kc_report.specs.declared.origin.Origin.{Origin}
use Rattle.kc_report.specs.declared.report_faults.ReportFault.{ReportFault}
use Rattle.kc_report.specs.declared.report_faults.ReportFault.TheVariants.{BadHeader, BadRow, BadEnd}
use Rattle.kc_report.specs.declared.report_faults.ReportFault.TheVariants.{TableTooLong, TableRead, Memory}
use Rattle.kc_report.specs.declared.report_faults.ReportFault.TheVariants.{BrokenGzip, ShortGzip}
use Rattle.kc_report.specs.Dumping.{row_in_columns}
use Rattle.kc_report.specs.Lines.{EndsWithBlock}
use Rattle.kc_report.specs.Table.{front_text}
use Rattle.kc_report.specs.TableReading.{BeginsWith, IsTable, HasBadHeader, HasBadRow, HasBadEnd, GivesTable}

-- ---- what is kept of the rows

-- the header of a table and what is kept of its rows: numbers only
pub record RowsRead : Type 0 where
  -- the length of the words, and whether both strands were counted
  pub k : ℕ
  pub both : Bool
  -- the word of the last row
  pub last : Option ℕ
  -- how many rows there were, and the sum of their counts
  pub count : ℕ
  pub total : ℕ

-- the last row has this word, or there are no rows
abbrev pub EndWith : List Row → Option ℕ → Type 0
EndWith rows None = rows ≡ []
EndWith rows (Some word) = (before : List Row) × (row : Row) × (rows ≡ before ++ row ∷ []) × (row.word ≡ word)

-- this is kept of these rows
pub record IsKeptOf (rows : List Row) (read : RowsRead) : Type 0 where
  pub last : EndWith rows read.last
  pub count : read.count ≡ length rows
  pub total : read.total ≡ total_of rows

-- the row may come next
pub record ComesNext (read : RowsRead) (row : Row) : Type 0 where
  pub word : row.word < 4 ^ read.k
  pub formed : form read.both (text read.k row.word) ≡ text read.k row.word
  pub rises : IfSome read.last (λ last. last < row.word)
  pub present : 1 ≤ row.count
  pub small : read.total + row.count ≤ 2 ^ 62

-- the bytes do not begin with a row that may come next
abbrev pub BeginsWithNoRow : RowsRead → List ℕ → Type 0
BeginsWithNoRow read bytes = (row : Row) → ComesNext read row → ¬ BeginsWith bytes (row_in_columns read.k false row)

-- with one more row
abbrev pub with_row : RowsRead → Row → RowsRead
with_row read row =
    record read { last = Some row.word; count = read.count + 1; total = read.total + row.count }

-- the next row is read, and kept like the others; or none is, and what is kept is unchanged
abbrev pub ReadsRow : RowsRead → RowsRead → Result (Option Row) ReportFault → Type 0
ReadsRow old new (Ok (Some row)) = ComesNext old row × (new ≡ with_row old row)
ReadsRow old new answer = new ≡ old

-- ---- the state of a reader

pub record TableStand : Type 0 where
  -- the header and what is kept of the rows that were given
  pub read : RowsRead
  -- what the table was counted from, if the header has that
  pub origin : Option Origin
  -- the bytes that came and are not used yet; None after the end of the table or a fault
  pub unread : Option Unread
  -- the fault that is kept, and returned from then on
  pub failed : Option ReportFault

-- the tally of these rows, under the header that was read
abbrev pub tally_of : TableStand → List Row → TallySeen
tally_of stand rows = record { k = stand.read.k; both = stand.read.both; rows = rows }

-- the header that was read, and these rows
abbrev pub given_text : TableStand → List Row → List ℕ
given_text stand rows = front_text stand.read.k stand.read.both stand.origin rows

-- A reader with this limit gave these rows of a source that was seen as `start`: the bytes that came, decompressed, are
-- the header and these rows, and then the bytes that it did not use.
pub record HasGivenRows (start now : Seen) (limit : ℕ) (rows : List Row) (stand : TableStand) : Type 0 where
  pub lawful : IsTable (tally_of stand rows) stand.origin
  pub kept : IsKeptOf rows stand.read
  pub unread : Unread
  pub still : stand.unread ≡ Some unread
  pub taken : TakenSoFar start now limit unread (given_text stand rows ++ unread.bytes)
  pub room : length (given_text stand rows ++ unread.bytes) + unread.room ≡ limit
  pub unfailed : stand.failed ≡ None

-- except for at most a block at their end, the unused bytes have no whole line
abbrev pub KeepsFew : TableStand → Type 0
KeepsFew stand = IfSome stand.unread (λ unread. EndsWithBlock unread.bytes)

-- the header is unchanged
pub record HasSameHeader (old new : TableStand) : Type 0 where
  pub k : new.read.k ≡ old.read.k
  pub both : new.read.both ≡ old.read.both
  pub origin : new.origin ≡ old.origin

-- ---- the results of a reader

-- why no header was read: taking the bytes failed, or all bytes were taken and do not begin with a header
abbrev pub RefusesHeader : Seen → Seen → ℕ → ReportFault → Type 0
RefusesHeader start now limit TableTooLong = TakingFails start now limit taking.TooLong
RefusesHeader start now limit TableRead = TakingFails start now limit taking.Read
RefusesHeader start now limit BrokenGzip = TakingFails start now limit taking.Broken
RefusesHeader start now limit ShortGzip = TakingFails start now limit taking.Short
RefusesHeader start now limit Memory = TakingFails start now limit taking.Memory
RefusesHeader start now limit BadHeader = (bytes : List ℕ) × TakesAll start now limit bytes × HasBadHeader bytes
RefusesHeader start now limit fault = ⊥

-- why no row is given after a header and these rows: taking the bytes failed, or all bytes were taken, and after this
-- header and these rows they have this fault
abbrev pub RefusesRow : Seen → Seen → ℕ → TallySeen → ReportFault → Type 0
RefusesRow start now limit front TableTooLong = TakingFails start now limit taking.TooLong
RefusesRow start now limit front TableRead = TakingFails start now limit taking.Read
RefusesRow start now limit front BrokenGzip = TakingFails start now limit taking.Broken
RefusesRow start now limit front ShortGzip = TakingFails start now limit taking.Short
RefusesRow start now limit front Memory = TakingFails start now limit taking.Memory
RefusesRow start now limit front (BadRow number) =
    (bytes : List ℕ) × TakesAll start now limit bytes × ((bad : HasBadRow bytes number) × (bad.front ≡ front))
RefusesRow start now limit front BadEnd =
    (bytes : List ℕ) × TakesAll start now limit bytes × ((bad : HasBadEnd bytes) × (bad.front ≡ front))
RefusesRow start now limit front fault = ⊥

-- The result of a reader that had given these rows: one more row; or the end, if all bytes were taken and are the table
-- text of these rows; or why it gives none.
abbrev pub GivesRow : Seen → Seen → ℕ → List Row → TableStand → Result (Option Row) ReportFault → Type 0
GivesRow start now limit rows stand (Ok (Some row)) = HasGivenRows start now limit (rows ++ row ∷ []) stand
GivesRow start now limit rows stand (Ok None) = GivesTable start now limit (tally_of stand rows, stand.origin)
GivesRow start now limit rows stand (Err fault) = RefusesRow start now limit (tally_of stand rows) fault

-- the unused bytes began with a row that may come next, and it was used
pub record UsesRow (old new : TableStand) (row : Row) : Type 0 where
  pub unread : Unread
  pub still : old.unread ≡ Some unread
  pub unfailed : old.failed ≡ None
  pub size : ℕ
  pub within : size ≤ length unread.bytes
  pub said : take size unread.bytes ≡ row_in_columns old.read.k false row
  pub follows : ComesNext old.read row
  pub moved : new ≡ record old {
    read = with_row old.read row;
    unread = Some (record unread { bytes = drop size unread.bytes });
  }

-- after a row, the header and the fault are unchanged, and few bytes are unused; the end and a fault change nothing
abbrev pub Stays : TableStand → TableStand → Result (Option Row) ReportFault → Type 0
Stays old new (Ok (Some row)) = HasSameHeader old new × (new.failed ≡ old.failed) × KeepsFew new
Stays old new answer = new ≡ old
