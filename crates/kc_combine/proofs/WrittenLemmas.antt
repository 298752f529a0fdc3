-- The table text of a combination of several tables, written row by row.
use Rattle.std.proofs.Common.{ℕ, ◌^◌, List, [], ◌∷◌, All, zero-le, subst, arith}
use Rattle.std.proofs.lemmas.List.Elements.{All-nil}
use Rattle.std.specs.Prelude.{Option, Some, None}
use Rattle.kc_io.specs.Sinks.{Written}
use Rattle.kc_tally.specs.declared.row.Row.{Row}
use Rattle.kc_tally.specs.Tally.{AreOrderedRows}
use Rattle.kc_report.specs.declared.header.Header.{Header}
use Rattle.kc_combine.specs.declared.ahead.Ahead.{Ahead}
use Rattle.kc_combine.specs.declared.gives_rows.GivesRows.{Ghosts}
use Rattle.kc_combine.specs.declared.written_tables.CombineFault.{CombineFault}
use Rattle.kc_combine.specs.declared.written_tables.CombineFault.TheVariants.{Table, TooLarge, Write, Memory, Unlike}
use Rattle.kc_combine.specs.Whences.{Whence}
use Rattle.kc_combine.specs.Aheads.{AreWhole, BeginAt, HaveLength, heads_of, whences_of}
use Rattle.kc_combine.specs.Combined.{MakesNothingOfNone}
use Rattle.kc_combine.specs.Walks.{GoesOn, IsWalking}
use Rattle.kc_combine.specs.WrittenTables.{FailsToWrite, IsResultOf, StandAtStart, StopsBehind, no_rows}
use Rattle.kc_combine.proofs.BoundLemmas.{is_combined}
use Rattle.kc_combine.proofs.CombinedLemmas.{all-of, combined_none}
use Rattle.kc_combine.proofs.WalkLemmas.{first-length, other-lengths}

-- ---- before the first row

pub begin_zero : (heads : List (Option Row)) → BeginAt 0 heads
begin_zero [] = tt
begin_zero (None ∷ heads) = (tt, begin_zero heads)
begin_zero (Some row ∷ heads) = (zero-le, begin_zero heads)

pub none_ordered : {R F : Type 0} {G : Ghosts R F} (aheads : List (Ahead R F G)) → All (λ table. AreOrderedRows 0 table) (no_rows aheads)
none_ordered [] = All-nil _
none_ordered (ahead ∷ aheads) = all-of [] (no_rows aheads)
    (record { rising = λ k h. absurd (omega (arith, h)); words = All-nil _; present = All-nil _ }) (none_ordered aheads)

pub walks_from_start : {R F : Type 0} {G : Ghosts R F} (Gave Whole : R → List Row → Type 0) (rule : List ℕ → ℕ)
    (aheads : List (Ahead R F G)) → StandAtStart Gave Whole aheads → IsWalking Gave Whole rule 0 (no_rows aheads) aheads []
walks_from_start Gave Whole rule aheads start = record {
  taken = start;
  begin = begin_zero (heads_of aheads);
  combined = combined_none rule (no_rows aheads) (none_ordered aheads);
}

-- ---- after the last row

-- whole tables have words of their length
pub whole_words : {R F : Type 0} {G : Ghosts R F} (Whole : R → List Row → Type 0) (whence : R → Whence) (k : ℕ)
    → ((reading : R) (rows : List Row) → Whole reading rows → AreOrderedRows (4 ^ (whence reading).k) rows)
    → (aheads : List (Ahead R F G)) (tables : List (List Row)) → HaveLength whence k aheads → AreWhole Whole aheads tables
    → All (λ table. AreOrderedRows (4 ^ k) table) tables
whole_words Whole whence k law [] [] have whole = All-nil _
whole_words Whole whence k law [] (rows ∷ tables) have whole = absurd whole
whole_words Whole whence k law (ahead ∷ aheads) [] have whole = absurd whole
whole_words Whole whence k law (ahead ∷ aheads) (rows ∷ tables) have whole = all-of rows tables
    (subst (λ n. AreOrderedRows (4 ^ n) rows) (first-length k (whence ahead.reading) (whences_of whence aheads) have)
    (law ahead.reading rows whole.0))
    (whole_words Whole whence k law aheads tables (other-lengths k (whence ahead.reading) (whences_of whence aheads) have) whole.1)

pub result_of : {R F : Type 0} {G : Ghosts R F} (Gave Whole : R → List Row → Type 0) (whence : R → Whence) (k : ℕ) (rule : List ℕ → ℕ)
    (aheads : List (Ahead R F G)) (rows : List Row) → MakesNothingOfNone rule
    → ((reading : R) (rows : List Row) → Whole reading rows → AreOrderedRows (4 ^ (whence reading).k) rows)
    → HaveLength whence k aheads → GoesOn Gave Whole rule aheads rows None → IsResultOf Whole rule k aheads rows
result_of Gave Whole whence k rule aheads rows nothing law have ends =
    let made = is_combined Gave Whole k rule aheads rows nothing
    (λ tables whole. whole_words Whole whence k law aheads tables have whole) ends in
    record { tables = made.0; whole = made.1; combined = made.2 }

-- ---- where it stops

pub fails_behind : {R F : Type 0} {G : Ghosts R F} (Gave Whole : R → List Row → Type 0) (Fails : R → List Row → F → Type 0)
    (rule : List ℕ → ℕ) (header : Header) (start now : Written) (aheads : List (Ahead R F G)) (rows : List Row) (fault : CombineFault F)
    → StopsBehind Gave Whole Fails rule header start now aheads rows fault
    → FailsToWrite Gave Whole Fails rule header start now aheads fault
fails_behind Gave Whole Fails rule header start now aheads rows (Table fault) h = (rows, h)
fails_behind Gave Whole Fails rule header start now aheads rows TooLarge h = (rows, h)
fails_behind Gave Whole Fails rule header start now aheads rows Write h = (rows, h)
fails_behind Gave Whole Fails rule header start now aheads rows Unlike h = absurd h
fails_behind Gave Whole Fails rule header start now aheads rows Memory h = absurd h
