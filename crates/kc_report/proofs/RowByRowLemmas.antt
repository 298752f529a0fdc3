-- The rows of a table text, given one after another.
use Rattle.std.proofs.Common.{◌≡◌, ℕ, ◌+◌, ◌^◌, ◌<◌, ◌≤◌, Bool, false, List, [], ◌∷◌, ◌++◌, length, take, drop}
use Rattle.std.proofs.Common.{refl, sym, ◌∙◌, ap, subst, arith, inl, inr}
use Rattle.std.specs.Prelude.{Option, Some, None, IfSome, Result, Ok, Err, IfErr}
use Rattle.kc_io.specs.Sources.{Seen}
use Rattle.kc_gzip.specs.Intakes.{Unread, Filled, TakesAll}
use Rattle.kc_tally.specs.declared.row.Row.{Row}
use Rattle.kc_tally.specs.Tally.{TallySeen}
use Rattle.kc_report.specs.declared.origin.Origin.{Origin}
use Rattle.kc_report.specs.declared.report_faults.ReportFault.{ReportFault}
use Rattle.kc_report.specs.declared.report_faults.ReportFault.TheVariants.{BadHeader, BadRow, BadEnd, Write}
use Rattle.kc_report.specs.declared.report_faults.ReportFault.TheVariants.{TableTooLong, TableRead, BadWord}
use Rattle.kc_report.specs.declared.report_faults.ReportFault.TheVariants.{BrokenGzip, ShortGzip, Unlike, TooLarge, Memory}
use Rattle.kc_report.specs.Dumping.{row_in_columns}
use Rattle.kc_report.specs.Table.{end_line, ended, end_text}
use Rattle.kc_report.specs.TableReading.{BeginsWith, MayFollow, RefusesTable}
use Rattle.kc_report.specs.RowByRow.{RowsRead, IsKeptOf, TableStand, tally_of, HasGivenRows, UsesRow}
use Rattle.kc_report.specs.RowByRow.{RefusesHeader, RefusesRow, GivesRow, ComesNext, with_row}
use Rattle.kc_report.specs.RowByRow.{BeginsWithNoRow}
use Rattle.kc_report.proofs.FieldLemmas.{one_row}
use Rattle.kc_report.proofs.NextRowLemmas.{follows-kept, comes-kept, kept_none, kept_push, may-pack, next_fits, says}
use Rattle.kc_report.proofs.TableFronts.{length-le_total}
use Rattle.kc_report.proofs.TableReadingLemmas.{Reached, reached_more, row_passed, row_used, memory_refused}

-- ---- what was given is what was reached

some_is : {u v : Unread} → ◌≡◌ {A = Option Unread} (Some u) (Some v) → u ≡ v
some_is e = cc

pub reached : {start now : Seen} {limit : ℕ} {rows : List Row} {stand : TableStand} (unread : Unread)
    → HasGivenRows start now limit rows stand → stand.unread ≡ Some unread
    → Reached start now limit (tally_of stand rows) stand.origin unread
reached {start} {now} {limit} {rows} {stand} unread h still =
    let same : h.unread ≡ unread = some_is (sym h.still ∙ still) in
    subst (λ u. Reached start now limit (tally_of stand rows) stand.origin u) same
    (record { lawful = h.lawful; used = record { taken = h.taken; room = h.room } })

-- what a reader keeps of the rows, with no fault
pub record Keeps (rows : List Row) (stand : TableStand) (unread : Unread) : Type 0 where
  pub kept : IsKeptOf rows stand.read
  pub still : stand.unread ≡ Some unread
  pub unfailed : stand.failed ≡ None

pub given : {start now : Seen} {limit : ℕ} {rows : List Row} {stand : TableStand} {unread : Unread}
    → Reached start now limit (tally_of stand rows) stand.origin unread → Keeps rows stand unread
    → HasGivenRows start now limit rows stand
given {unread = unread} r k = record {
  lawful = r.lawful;
  kept = k.kept;
  unread = unread;
  still = k.still;
  taken = r.used.taken;
  room = r.used.room;
  unfailed = k.unfailed;
}

-- a header was read, and no row yet
pub given_none : {start now : Seen} {limit : ℕ} {unread : Unread} (k : ℕ) (both : Bool) (origin : Option Origin)
    → Reached start now limit (record { k = k; both = both; rows = [] }) origin unread
    → HasGivenRows start now limit [] (record {
      read = record { k = k; both = both; last = None; count = 0; total = 0 };
      origin = origin;
      unread = Some unread;
      failed = None;
    })
given_none k both origin r = given r (record { kept = kept_none k both; still = refl; unfailed = refl })

-- one more row was given
pub given_row : {start now : Seen} {limit : ℕ} {rows : List Row} {old new : TableStand} {row : Row}
    → HasGivenRows start now limit rows old → UsesRow old new row
    → HasGivenRows start now limit (rows ++ row ∷ []) new
given_row {start} {now} {limit} {rows} {old} {new} {row} h u =
    let follows = follows-kept rows old.read row h.kept h.lawful.rows u.follows in
    let passed = row_passed u.size row (reached u.unread h u.still) u.said follows in
    subst (λ s. HasGivenRows start now limit (rows ++ row ∷ []) s) (sym u.moved)
    (given passed (record { kept = kept_push row h.kept; still = refl; unfailed = h.unfailed }))

-- the row at the front of the bytes is the only one that may come next there
pub gives_only : {old new : TableStand} {row : Row} → UsesRow old new row → IfSome old.unread (λ unread.
    (other : Row) → ComesNext old.read other → BeginsWith unread.bytes (row_in_columns old.read.k false other)
    → ◌≡◌ {A = Result (Option Row) ReportFault} (Ok (Some row)) (Ok (Some other)))
gives_only {old} {new} {row} u =
    let fits = next_fits old.read row u.follows in
    let here = says old.read.k row u.size fits u.said in
    subst (λ v. IfSome v (λ unread. (other : Row) → ComesNext old.read other
    → BeginsWith unread.bytes (row_in_columns old.read.k false other)
    → ◌≡◌ {A = Result (Option Row) ReportFault} (Ok (Some row)) (Ok (Some other)))) (sym u.still)
    (λ other next at. ap (λ (r : Row). Ok (Some r)) (one_row old.read.k row other u.unread.bytes fits
    (next_fits old.read other next) here.at at))

-- there is none
pub gives_none : (Gives : Row → Type 0) (read : RowsRead) (unread : Option Unread)
    → IfSome unread (λ unread. BeginsWithNoRow read unread.bytes)
    → IfSome unread (λ unread. (row : Row) → ComesNext read row
    → BeginsWith unread.bytes (row_in_columns read.k false row) → Gives row)
gives_none Gives read None none = tt
gives_none Gives read (Some unread) none = λ row next at. absurd (none row next at)

-- the end line by what is kept of the rows
pub end_is : {rows : List Row} {read : RowsRead} → IsKeptOf rows read
    → ended (end_line read.count read.total) ≡ end_text rows
end_is kept = λ i. ended (end_line (kept.count i) (kept.total i))

-- ---- faults

pub header_refuses : (start now : Seen) (limit : ℕ) (fault : ReportFault) → RefusesHeader start now limit fault
    → RefusesTable start now limit fault
header_refuses start now limit BadHeader h = h
header_refuses start now limit (BadRow number) h = absurd h
header_refuses start now limit BadEnd h = absurd h
header_refuses start now limit Write h = absurd h
header_refuses start now limit TableTooLong h = h
header_refuses start now limit TableRead h = h
header_refuses start now limit BrokenGzip h = h
header_refuses start now limit ShortGzip h = h
header_refuses start now limit (BadWord number) h = absurd h
header_refuses start now limit Unlike h = absurd h
header_refuses start now limit TooLarge h = absurd h
header_refuses start now limit Memory h = inl h

pub row_refuses : (start now : Seen) (limit : ℕ) (front : TallySeen) (fault : ReportFault)
    → RefusesRow start now limit front fault → RefusesTable start now limit fault
row_refuses start now limit front BadHeader h = absurd h
row_refuses start now limit front (BadRow number) h = (h.0, h.1, h.2.0)
row_refuses start now limit front BadEnd h = (h.0, h.1, h.2.0)
row_refuses start now limit front Write h = absurd h
row_refuses start now limit front TableTooLong h = h
row_refuses start now limit front TableRead h = h
row_refuses start now limit front BrokenGzip h = h
row_refuses start now limit front ShortGzip h = h
row_refuses start now limit front (BadWord number) h = absurd h
row_refuses start now limit front Unlike h = absurd h
row_refuses start now limit front TooLarge h = absurd h
row_refuses start now limit front Memory h = inl h

-- the same for a result
pub refuses : {A : Type 0} {Is Also : ReportFault → Type 0} (answer : Result A ReportFault)
    → ((fault : ReportFault) → Is fault → Also fault) → IfErr answer Is → IfErr answer Also
refuses (Ok a) also h = tt
refuses (Err fault) also h = also fault h

-- all was taken, and then memory was refused
pub table_in_vain : {start now : Seen} {limit : ℕ} (bytes : List ℕ) → TakesAll start now limit bytes
    → RefusesTable start now limit Memory
table_in_vain bytes all = inr (bytes, all)

-- ---- steps of a reader

-- if bytes are unread, no fault was kept, nor is one then
pub no_fault : {was : Option Unread} {unread : Unread} (is : Option Unread) (failed : Option ReportFault)
    → IfSome failed (λ fault. was ≡ None) → was ≡ Some unread → IfSome failed (λ fault. is ≡ None)
no_fault is None kept some = tt
no_fault is (Some fault) kept some = absurd (let wrong : ◌≡◌ {A = Option Unread} None (Some _) = sym kept ∙ some in cc)

pub unfailed_is : {was : Option Unread} {unread : Unread} (failed : Option ReportFault)
    → IfSome failed (λ fault. was ≡ None) → was ≡ Some unread → failed ≡ None
unfailed_is None kept some = refl
unfailed_is (Some fault) kept some = absurd (let wrong : ◌≡◌ {A = Option Unread} None (Some _) = sym kept ∙ some in cc)

pub fault_of_none : (failed : Option ReportFault) (Is : ReportFault → Type 0) → failed ≡ None → IfSome failed Is
fault_of_none failed Is none = subst (λ v. IfSome v Is) (sym none) tt

-- the unread bytes were taken out, and what was given stays given
pub taken_out : {start now : Seen} {limit : ℕ} {rows : List Row} {inside stand : TableStand} (unread : Unread)
    → inside ≡ stand → inside.unread ≡ Some unread → HasGivenRows start now limit rows stand
    → HasGivenRows start now limit rows (record inside { unread = Some unread })
taken_out {start} {now} {limit} {rows} {inside} {stand} unread view some h =
    subst (λ s. HasGivenRows start now limit rows s) (sym view ∙ ap (λ v. record inside { unread = v }) some) h

-- a result that gives no row refuses the table
pub answer_refuses : (start now : Seen) (limit : ℕ) (rows : List Row) (stand : TableStand)
    (answer : Result (Option Row) ReportFault) → GivesRow start now limit rows stand answer
    → IfErr answer (RefusesTable start now limit)
answer_refuses start now limit rows stand (Ok (Some row)) h = tt
answer_refuses start now limit rows stand (Ok None) h = tt
answer_refuses start now limit rows stand (Err fault) h = row_refuses start now limit (tally_of stand rows) fault h

-- what rows that were given keep: each may be packed, and they are few
pub given_packs : {start now : Seen} {limit : ℕ} {stand : TableStand} (rows : List Row) (row : Row)
    → HasGivenRows start now limit (rows ++ row ∷ []) stand → (row.word < 2 ^ 62) × (1 ≤ row.count)
given_packs {stand = stand} rows row h =
    may-pack stand.read.k stand.read.both rows row h.lawful.most h.lawful.rows

pub given_few : {start now : Seen} {limit : ℕ} {rows : List Row} {stand : TableStand}
    → HasGivenRows start now limit rows stand → length rows ≤ 2 ^ 62
given_few {rows = rows} h =
    let most = length-le_total rows h.lawful.rows.ordered.present in
    let small = h.lawful.rows.small in
    omega (arith, most, small)

-- a line that is no row that may come next, by what is kept of the rows
pub no_row_kept : {rows : List Row} {inside now : TableStand} {line : List ℕ} → inside ≡ now → IsKeptOf rows now.read
    → ((row : Row) → ComesNext inside.read row → BeginsWith line (row_in_columns inside.read.k false row) → ⊥)
    → (row : Row) → MayFollow (tally_of now rows) row → BeginsWith line (row_in_columns now.read.k false row) → ⊥
no_row_kept {rows} {inside} {now} {line} view kept none row follows at =
    let here = subst (λ (s : TableStand). (row : Row) → ComesNext s.read row
    → BeginsWith line (row_in_columns s.read.k false row) → ⊥) view none in
    here row (comes-kept rows now.read row kept follows) at

pub no_row_now : {inside now : TableStand} {line : List ℕ} → inside ≡ now → BeginsWithNoRow inside.read line
    → BeginsWithNoRow now.read line
no_row_now {line = line} view none = subst (λ (s : TableStand). BeginsWithNoRow s.read line) view none

-- the number of the line after the rows
pub line_number : {rows : List Row} {inside now : TableStand} (number : ℕ) → inside ≡ now → IsKeptOf rows now.read
    → number ≡ inside.read.count + 2 → number ≡ length rows + 2
line_number number view kept_ told =
    let count = ap (λ (s : TableStand). s.read.count) view in
    let kept = kept_.count in
    omega (arith, count, kept, told)

-- memory was refused after rows that were given
pub rows_in_vain : {start now : Seen} {limit : ℕ} {rows : List Row} {stand : TableStand}
    → HasGivenRows start now limit rows stand → RefusesTable start now limit Memory
rows_in_vain h = memory_refused (reached h.unread h h.still).used

-- a line was found, and its row used
pub record UsesLine (before after : Unread) (old new : Seen) (count : ℕ) : Type 0 where
  pub filled : Filled old new before after
  pub inside : count ≤ length after.bytes

-- the line begins with the row
pub record LineHas (k : ℕ) (line : List ℕ) (size : ℕ) (row : Row) : Type 0 where
  pub within : size ≤ length line
  pub said : take size line ≡ row_in_columns k false row

pub line_given : {start old new : Seen} {limit count : ℕ} {rows : List Row} {inside now : TableStand}
    {before after : Unread} {line : List ℕ} (size : ℕ) (row : Row) → inside ≡ now → now.failed ≡ None
    → HasGivenRows start old limit rows (record now { unread = Some before })
    → UsesLine before after old new count → line ≡ take count after.bytes → LineHas inside.read.k line size row
    → ComesNext inside.read row
    → HasGivenRows start new limit (rows ++ row ∷ []) (record inside {
      read = with_row inside.read row;
      unread = Some (record after { bytes = drop size after.bytes });
    })
line_given {start} {old} {new} {limit} {count} {rows} {inside} {now} {before} {after} {line} size row view unfailed
    h_ uses cut has follows =
    let h = subst (λ (s : TableStand). HasGivenRows start old limit rows (record s { unread = Some before })) (sym view)
    h_ in
    let r = reached_more (reached before h refl) uses.filled in
    let may = follows-kept rows inside.read row h.kept h.lawful.rows follows in
    given (row_used size row r cut uses.inside may has.within has.said)
    (record { kept = kept_push row h.kept; still = refl; unfailed = h.unfailed })
