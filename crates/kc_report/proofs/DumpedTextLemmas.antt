-- The dump of a table text, row by row.
use Rattle.std.proofs.Common.{◌≡◌, ℕ, ◌^◌, ◌<◌, ◌≤◌, List, [], ◌∷◌, ◌++◌, length, arith, sym, ◌∙◌, ap, subst}
use Rattle.std.proofs.Common.{append-nil, inl, inr}
use Rattle.std.specs.Prelude.{Result, Ok}
use Rattle.kc_io.specs.declared.failures.Failed.{Failed}
use Rattle.kc_io.specs.Sinks.{Written, Drains, HasBegun, HasWritten}
use Rattle.kc_io.specs.Sources.{Seen}
use Rattle.kc_tally.specs.declared.row.Row.{Row}
use Rattle.kc_report.specs.declared.dump.Dump.{Dump}
use Rattle.kc_report.specs.declared.report_faults.ReportFault.{ReportFault}
use Rattle.kc_report.specs.declared.report_faults.ReportFault.TheVariants.{BadHeader, BadRow, BadEnd, Write}
use Rattle.kc_report.specs.declared.report_faults.ReportFault.TheVariants.{TableTooLong, TableRead, BadWord}
use Rattle.kc_report.specs.declared.report_faults.ReportFault.TheVariants.{BrokenGzip, ShortGzip, Unlike, TooLarge, Memory}
use Rattle.kc_report.specs.DumpedText.{DumpsNot, StopsBehindRows}
use Rattle.kc_report.specs.Dumping.{dump_text, shown_text}
use Rattle.kc_report.specs.Faults.{UnlessWrite}
use Rattle.kc_report.specs.Lines.{block_size}
use Rattle.kc_report.specs.RowByRow.{ComesNext, HasGivenRows, HasSameHeader, TableStand, RefusesRow, tally_of}
use Rattle.kc_report.proofs.DumpLemmas.{dump_text-cons}
use Rattle.kc_report.proofs.PieceLemmas.{dump_text-append}
use Rattle.kc_report.proofs.WritingLemmas.{begun_more, drains_begun, drains_both, drains_more, drains_none, drains_written}

-- the dump with one more row
dump_text-push : (k : ℕ) (dump : Dump) (rows : List Row) (row : Row)
    → dump_text k dump (rows ++ row ∷ []) ≡ dump_text k dump rows ++ shown_text k dump row
dump_text-push k dump rows row =
    dump_text-append k dump rows (row ∷ [])
    ∙ ap (λ v. dump_text k dump rows ++ v) (dump_text-cons k dump row [] ∙ append-nil (shown_text k dump row))

-- ---- the rows so far

-- these rows were given, and the sink took a prefix of their dump; the rest is in the block
pub record KeepsDump (old new : Seen) (limit k : ℕ) (dump : Dump) (start now : Written) (block : List ℕ)
    (stand : TableStand) : Type 0 where
  pub rows : List Row
  pub given : HasGivenRows old new limit rows stand
  pub k_is : stand.read.k ≡ k
  pub drained : Drains start now (dump_text k dump rows) block
  pub few : length block ≤ block_size

pub keeps_none : {old new : Seen} {limit k : ℕ} {dump : Dump} {block : List ℕ} {stand : TableStand} (seen : Written)
    → HasGivenRows old new limit [] stand → stand.read.k ≡ k → block ≡ []
    → KeepsDump old new limit k dump seen seen block stand
keeps_none {block = block} seen given k_is none = record {
  rows = [];
  given = given;
  k_is = k_is;
  drained = subst (λ v. Drains seen seen [] v) (sym none) (drains_none seen []);
  few = let long = ap length none in omega (arith, long);
}

-- a row that may come next has k bases
pub row_below : {old now : Seen} {limit k : ℕ} {dump : Dump} {start next : Written} {block : List ℕ}
    {was : TableStand} {row : Row} → KeepsDump old now limit k dump start next block was → ComesNext was.read row
    → row.word < 4 ^ k
row_below {row = row} kept comes = subst (λ n. row.word < 4 ^ n) kept.k_is comes.word

-- one more row was given, and its part of the dump was appended to the block
pub dumps_row : {old before new : Seen} {limit k : ℕ} {dump : Dump} {start now next : Written} {block after : List ℕ}
    {was stand : TableStand} (row : Row) (kept : KeepsDump old before limit k dump start now block was)
    → HasGivenRows old new limit (kept.rows ++ row ∷ []) stand → HasSameHeader was stand
    → Drains now next (block ++ shown_text k dump row) after → length after ≤ block_size
    → KeepsDump old new limit k dump start next after stand
dumps_row {k = k} {dump} {start} {now} {next} {block} {after} row kept given header moved few =
    let text = dump_text k dump kept.rows in
    let shown = shown_text k dump row in
    record {
      rows = kept.rows ++ row ∷ [];
      given = given;
      k_is = header.k ∙ kept.k_is;
      drained = subst (λ v. Drains start next v after) (sym (dump_text-push k dump kept.rows row))
          (drains_both start now next (text ++ shown) (block ++ shown) after
          (drains_more start now text block shown kept.drained) moved);
      few = few;
    }

-- ---- faults

stops_behind : {old new : Seen} {limit : ℕ} {dump : Dump} {start now : Written} (fault : ReportFault)
    → StopsBehindRows old new limit dump start now fault → DumpsNot old new limit dump start now fault
stops_behind BadHeader h = absurd h.refused
stops_behind (BadRow number) h = inr h
stops_behind BadEnd h = inr h
stops_behind Write h = absurd h.refused
stops_behind TableTooLong h = inr h
stops_behind TableRead h = inr h
stops_behind BrokenGzip h = inr h
stops_behind ShortGzip h = inr h
stops_behind (BadWord number) h = absurd h.refused
stops_behind Unlike h = absurd h.refused
stops_behind TooLarge h = absurd h.refused
stops_behind Memory h = inr h

pub unless_write : (Is : ReportFault → Type 0) (fault : ReportFault) → Is fault → UnlessWrite Is fault
unless_write Is BadHeader h = h
unless_write Is (BadRow number) h = h
unless_write Is BadEnd h = h
unless_write Is Write h = tt
unless_write Is TableTooLong h = h
unless_write Is TableRead h = h
unless_write Is BrokenGzip h = h
unless_write Is ShortGzip h = h
unless_write Is (BadWord number) h = h
unless_write Is Unlike h = h
unless_write Is TooLarge h = h
unless_write Is Memory h = h

-- no row was given after those so far, for this reason
pub stops_here : {old before : Seen} {limit k : ℕ} {dump : Dump} {start now : Written} {block : List ℕ}
    {was stand : TableStand} (new : Seen) (fault : ReportFault) (kept : KeepsDump old before limit k dump start now block was)
    → RefusesRow old new limit (tally_of stand kept.rows) fault → HasSameHeader was stand
    → DumpsNot old new limit dump start now fault
stops_here {old} {before} {limit} {k} {dump} {start} {now} {block} {was} {stand} new fault kept refused header =
    let front : tally_of stand kept.rows ≡ tally_of was kept.rows =
    λ i. record { k = header.k i; both = header.both i; rows = kept.rows } in
    stops_behind fault (record {
      rows = kept.rows;
      stand = was;
      before = before;
      given = kept.given;
      refused = subst (λ f. RefusesRow old new limit f fault) front refused;
      left = block;
      drained = subst (λ n. Drains start now (dump_text n dump kept.rows) block) (sym kept.k_is) kept.drained;
      few = kept.few;
    })

-- ---- the sink

-- it failed in the block, before the next row was appended
pub fails_here : {old before new : Seen} {limit k : ℕ} {dump : Dump} {start now next : Written} {block : List ℕ}
    {was stand : TableStand} (row : Row) (kept : KeepsDump old before limit k dump start now block was)
    → HasGivenRows old new limit (kept.rows ++ row ∷ []) stand → HasSameHeader was stand → HasBegun now next block
    → DumpsNot old new limit dump start next Write
fails_here {k = k} {dump} {start} {now} {next} {block} {was} {stand} row kept given header begun =
    let text = dump_text k dump kept.rows in
    let more = subst (HasBegun start next) (sym (dump_text-push k dump kept.rows row))
    (begun_more start next text (shown_text k dump row) (drains_begun start now next text block kept.drained begun)) in
    record {
      rows = kept.rows ++ row ∷ [];
      stand = stand;
      given = inl given;
      begun = subst (λ n. HasBegun start next (dump_text n dump (kept.rows ++ row ∷ []))) (sym (header.k ∙ kept.k_is)) more;
    }

-- it failed in the block after the last row
pub fails_at_end : {old before : Seen} {limit k : ℕ} {dump : Dump} {start now : Written} {block : List ℕ}
    {was stand : TableStand} (next : Written) (kept : KeepsDump old before limit k dump start now block was) → HasSameHeader was stand
    → HasBegun now next block → HasBegun start next (dump_text stand.read.k dump kept.rows)
fails_at_end {k = k} {dump} {start} {now} {block} next kept header begun =
    subst (λ n. HasBegun start next (dump_text n dump kept.rows)) (sym (header.k ∙ kept.k_is))
    (drains_begun start now next (dump_text k dump kept.rows) block kept.drained begun)

-- the block was written after the last row
pub ends_here : {old before : Seen} {limit k : ℕ} {dump : Dump} {start now : Written} {block : List ℕ}
    {was stand : TableStand} (next : Written) (kept : KeepsDump old before limit k dump start now block was) → HasSameHeader was stand
    → HasWritten now next block → HasWritten start next (dump_text stand.read.k dump kept.rows)
ends_here {k = k} {dump} {start} {now} {block} next kept header written =
    let done : Result (Unit {0}) Failed = Ok tt in
    subst (λ n. HasWritten start next (dump_text n dump kept.rows)) (sym (header.k ∙ kept.k_is))
    (drains_written start now next (dump_text k dump kept.rows) block done kept.drained written)
