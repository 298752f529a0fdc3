-- A table text and its source, as one that gives its rows.
use Rattle.std.proofs.Common.{◌≡◌, ℕ, ◌+◌, ◌^◌, ◌<◌, ◌≤◌, List, [], ◌∷◌, ◌++◌, Result, Ok, Err, IfOk, IfErr, IfSome, IfNone, ap, sym, subst, arith}
use Rattle.std.specs.Prelude.{Option, Some, None}
use Rattle.kc_io.specs.Sources.{Seen}
use Rattle.kc_tally.specs.declared.row.Row.{Row}
use Rattle.kc_report.specs.declared.report_faults.ReportFault.{ReportFault}
use Rattle.kc_report.specs.RowByRow.{ComesNext, GivesRow, HasGivenRows, ReadsRow, RefusesRow, RowsRead, TableStand, tally_of}
use Rattle.kc_report.specs.TableReading.{GivesTable}
use Rattle.kc_combine.specs.Whences.{low_of}
use Rattle.kc_tally.proofs.PackingSteps.{word-small}

pub given_row : (start now : Seen) (limit : ℕ) (rows : List Row) (stand : TableStand) (result : Result (Option Row) ReportFault)
    → GivesRow start now limit rows stand result
    → IfOk result (λ next. IfSome next (λ row. HasGivenRows start now limit (rows ++ row ∷ []) stand))
given_row start now limit rows stand (Ok (Some row)) h = h
given_row start now limit rows stand (Ok None) h = tt
given_row start now limit rows stand (Err why) h = tt

pub given_end : (start now : Seen) (limit : ℕ) (rows : List Row) (stand : TableStand) (result : Result (Option Row) ReportFault)
    → GivesRow start now limit rows stand result
    → IfOk result (λ next. IfNone next (GivesTable start now limit (tally_of stand rows, stand.origin)))
given_end start now limit rows stand (Ok (Some row)) h = tt
given_end start now limit rows stand (Ok None) h = h
given_end start now limit rows stand (Err why) h = tt

pub given_fault : (start now : Seen) (limit : ℕ) (rows : List Row) (stand : TableStand) (result : Result (Option Row) ReportFault)
    → GivesRow start now limit rows stand result
    → IfErr result (λ fault. RefusesRow start now limit (tally_of stand rows) fault)
given_fault start now limit rows stand (Ok (Some row)) h = tt
given_fault start now limit rows stand (Ok None) h = tt
given_fault start now limit rows stand (Err why) h = h

above : (read : RowsRead) (row : Row) → ComesNext read row → low_of read.last ≤ row.word
above read row comes = from read.last comes.rises where
  from : (last : Option ℕ) → IfSome last (λ last. last < row.word) → low_of last ≤ row.word
  from None h = omega arith
  from (Some word) h = omega (arith, h)

pub goes_forward : (old new : RowsRead) (result : Result (Option Row) ReportFault) → ReadsRow old new result
    → low_of old.last ≤ low_of new.last
goes_forward old new (Ok (Some row)) h =
    let least = above old row h.0 in
    subst (λ (read : RowsRead). low_of old.last ≤ low_of read.last) (sym h.1) (omega (arith, least))
goes_forward old new (Ok None) h = subst (λ (read : RowsRead). low_of old.last ≤ low_of read.last) (sym h) (omega arith)
goes_forward old new (Err why) h = subst (λ (read : RowsRead). low_of old.last ≤ low_of read.last) (sym h) (omega arith)

pub rises_with : (old new : RowsRead) (result : Result (Option Row) ReportFault) → old.k ≤ 31 → ReadsRow old new result
    → IfOk result (λ next. IfSome next (λ row. (low_of old.last ≤ row.word) × (row.word < 2 ^ 62) × (low_of new.last ≡ row.word + 1)))
rises_with old new (Ok (Some row)) most h =
    (above old row h.0, word-small old.k row.word most h.0.word, ap (λ (read : RowsRead). low_of read.last) h.1)
rises_with old new (Ok None) most h = tt
rises_with old new (Err why) most h = tt

-- ---- the first row

pub first_behind : (old new : RowsRead) (next : Option Row) → ReadsRow old new (Ok next)
    → IfSome next (λ row. row.word < low_of new.last)
first_behind old new None h = tt
first_behind old new (Some row) h =
    subst (λ (read : RowsRead). row.word < low_of read.last) (sym h.1) (omega arith)

pub first_small : (old new : RowsRead) (next : Option Row) → old.k ≤ 31 → ReadsRow old new (Ok next)
    → IfSome next (λ row. row.word < 2 ^ 62)
first_small old new None most h = tt
first_small old new (Some row) most h = word-small old.k row.word most h.0.word

pub first_fits : (old new : RowsRead) (next : Option Row) → ReadsRow old new (Ok next)
    → IfSome next (λ row. row.word < 4 ^ new.k)
first_fits old new None h = tt
first_fits old new (Some row) h = subst (λ (read : RowsRead). row.word < 4 ^ read.k) (sym h.1) h.0.word
