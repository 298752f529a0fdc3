-- The table text of a combination of several tables, written row by row.
-- Source: our formats page ("The table text", "Merging" and the commands over several tables).
use Rattle.std.specs.Prelude.{◌≡◌, ◌⊎◌, ℕ, ◌+◌, ◌^◌, ◌<◌, List, [], ◌∷◌, ◌++◌, length, map, Option, None, Some}
use Rattle.kc_io.specs.Sinks.{Written, Drains, HasBegun, HasWritten}
use Rattle.kc_tally.specs.declared.row.Row.{Row}
use Rattle.kc_tally.specs.Tally.{total_of}
use Rattle.kc_report.specs.declared.header.Header.{Header}
use Rattle.kc_report.specs.RowsWritten.{HasPutRows, WritingStand, front_of, text_of}
use Rattle.kc_combine.specs.declared.ahead.Ahead.{Ahead}
use Rattle.kc_combine.specs.declared.gives_rows.GivesRows.{Ghosts}
use Rattle.kc_combine.specs.declared.combined_rows.WalkFault.TheVariants as walking
use Rattle.kc_combine.specs.declared.written_tables.CombineFault.{CombineFault}
use Rattle.kc_combine.specs.declared.written_tables.CombineFault.TheVariants.{Table, Unlike, TooLarge, Write, Memory}
use Rattle.kc_combine.specs.declared.written_tables.Totals.{Totals}
use Rattle.kc_combine.specs.Aheads.{AreWhole, HaveTaken}
use Rattle.kc_combine.specs.Combined.{IsCombined}
use Rattle.kc_combine.specs.Walks.{GoesOn, StopsAt}

-- no row of any table
abbrev pub no_rows : {R F : Type 0} {G : Ghosts R F} → List (Ahead R F G) → List (List Row)
no_rows aheads = map (λ ahead. []) aheads

-- no row was taken from the tables yet
abbrev pub StandAtStart : {R F : Type 0} {G : Ghosts R F} → (R → List Row → Type 0) → (R → List Row → Type 0)
    → List (Ahead R F G) → Type 0
StandAtStart Gave Whole aheads = HaveTaken Gave Whole aheads (no_rows aheads)

-- the next row was put after these, or there was none
abbrev pub PutsNext : Written → Written → Header → List Row → WritingStand → Option Row → Type 0
PutsNext start now header rows stand None = HasPutRows start now header rows stand
PutsNext start now header rows stand (Some row) = HasPutRows start now header (rows ++ row ∷ []) stand

-- the rows combine the tables, whose rows were all taken
pub record IsResultOf {R F : Type 0} {G : Ghosts R F} (Whole : R → List Row → Type 0) (rule : List ℕ → ℕ) (k : ℕ)
    (aheads : List (Ahead R F G)) (rows : List Row) : Type 0 where
  pub tables : List (List Row)
  pub whole : AreWhole Whole aheads tables
  pub combined : IsCombined k rule tables rows

-- the table text of the combination of the whole tables was written, and these are its totals
pub record HasWrittenTable {R F : Type 0} {G : Ghosts R F} (Whole : R → List Row → Type 0) (rule : List ℕ → ℕ)
    (header : Header) (start now : Written) (aheads : List (Ahead R F G)) (totals : Totals) : Type 0 where
  pub rows : List Row
  pub result : IsResultOf Whole rule header.k aheads rows
  pub written : HasWritten start now (text_of header rows)
  pub distinct : totals.distinct ≡ length rows
  pub total : totals.total ≡ total_of rows

-- the sink took a prefix of the header and these rows, and nothing failed
abbrev pub HasTakenFront : Written → Written → Header → List Row → Type 0
HasTakenFront start now header rows = (left : List ℕ) × Drains start now (front_of header rows) left

-- Why the text does not go on after these rows, which combine the tables so far: a table has a fault; or the count of
-- the next word, or the sum of the counts with it, is above 2 ^ 62; or the writer failed, before the next row or in the
-- text of all rows.
abbrev pub StopsBehind : {R F : Type 0} {G : Ghosts R F} → (R → List Row → Type 0) → (R → List Row → Type 0)
    → (R → List Row → F → Type 0) → (List ℕ → ℕ) → Header → Written → Written → List (Ahead R F G) → List Row
    → CombineFault F → Type 0
StopsBehind Gave Whole Fails rule header start now aheads rows (Table fault) =
    HasTakenFront start now header rows × StopsAt Gave Whole Fails rule aheads rows (walking.Table fault)
StopsBehind Gave Whole Fails rule header start now aheads rows TooLarge =
    HasTakenFront start now header rows × (StopsAt Gave Whole Fails rule aheads rows walking.TooLarge
    ⊎ ((row : Row) × GoesOn Gave Whole rule aheads rows (Some row) × (2 ^ 62 < total_of rows + row.count)))
StopsBehind Gave Whole Fails rule header start now aheads rows Write =
    ((row : Row) × GoesOn Gave Whole rule aheads rows (Some row) × HasBegun start now (front_of header rows))
    ⊎ (IsResultOf Whole rule header.k aheads rows × HasBegun start now (text_of header rows))
StopsBehind Gave Whole Fails rule header start now aheads rows Unlike = ⊥
StopsBehind Gave Whole Fails rule header start now aheads rows Memory = ⊥

-- why the table text was not written whole; if memory was refused, nothing was handed to the writer
abbrev pub FailsToWrite : {R F : Type 0} {G : Ghosts R F} → (R → List Row → Type 0) → (R → List Row → Type 0)
    → (R → List Row → F → Type 0) → (List ℕ → ℕ) → Header → Written → Written → List (Ahead R F G)
    → CombineFault F → Type 0
FailsToWrite Gave Whole Fails rule header start now aheads Memory = now ≡ start
FailsToWrite Gave Whole Fails rule header start now aheads fault =
    (rows : List Row) × StopsBehind Gave Whole Fails rule header start now aheads rows fault
