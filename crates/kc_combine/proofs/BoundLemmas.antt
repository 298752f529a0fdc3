-- The rows of several tables together have the words of the tables alone, and are the whole result if no table has a
-- row left.
use Rattle.std.proofs.Common.{◌≡◌, ℕ, zero, suc, ◌^◌, ◌<◌, ◌≤◌, min, ⊎_elim, List, [], ◌∷◌, length, get_or, All, refl, ap, sym, ◌∙◌, arith}
use Rattle.std.specs.Prelude.{Option, Some, None}
use Rattle.std.proofs.lemmas.Bool.{cases_lt}
use Rattle.kc_tally.specs.declared.row.Row.{Row}
use Rattle.kc_tally.specs.Tally.{count_of, AreOrderedRows}
use Rattle.kc_tally.proofs.Tallies.{RisesFrom, RiseWithin, RiseWithin-rest, count_of-here, count_of-past, ordered-RiseWithin}
use Rattle.kc_combine.specs.declared.ahead.Ahead.{Ahead}
use Rattle.kc_combine.specs.declared.gives_rows.GivesRows.{Ghosts}
use Rattle.kc_combine.specs.Combined.{AreCombinedBelow, IsCombined, MakesNothingOfNone}
use Rattle.kc_combine.specs.Aheads.{AreWhole, HasTaken, HaveTaken, heads_of, least_from}
use Rattle.kc_combine.specs.Walks.{GoesOn}
use Rattle.kc_combine.proofs.CombinedLemmas.{absent_above, tables_absent}

-- ---- the row of a word

at_least : (low : ℕ) (rows : List Row) → RisesFrom low rows → (i : ℕ) (row : Row) → i < length rows → low ≤ (get_or rows i row).word
unfolding RisesFrom
at_least low [] rises i row h = absurd (omega (arith, h))
at_least low (first ∷ rows) rises zero row h = rises.0
at_least low (first ∷ rows) rises (suc i) row h =
    let least = rises.0 in
    let rest = at_least (suc first.word) rows rises.1 i row (omega (arith, h)) in omega (arith, least, rest)

-- the count of the word of a row is that of the row
pub count_of_row : (low bound : ℕ) (rows : List Row) → RiseWithin low bound rows → (i : ℕ) (row : Row) → i < length rows
    → count_of rows (get_or rows i row).word ≡ (get_or rows i row).count
count_of_row low bound [] rise i row h = absurd (omega (arith, h))
count_of_row low bound (first ∷ rows) rise zero row h = count_of-here first rows first.word refl
count_of_row low bound (first ∷ rows) rise (suc i) row h =
    let rest = RiseWithin-rest low bound first rows rise in
    let least = at_least (suc first.word) rows rest.rises i row (omega (arith, h)) in
    count_of-past first rows (get_or rows i row).word (λ e. omega (arith, e, least))
    ∙ count_of_row (suc first.word) bound rows rest i row (omega (arith, h))

-- ---- the words of the tables

-- what is combined below any bound is combined below each bound of the words of the tables
pub combined_below_all : (most bound : ℕ) (rule : List ℕ → ℕ) (tables : List (List Row)) (rows : List Row) → MakesNothingOfNone rule
    → All (λ table. AreOrderedRows most table) tables → AreCombinedBelow bound rule tables rows
    → AreCombinedBelow most rule tables rows
combined_below_all most bound rule tables rows nothing given are = record {
  ordered = record {
    rising = are.ordered.rising;
    words = λ i row h. ⊎_elim (λ less. less) (λ not. absurd (none_above i row h not)) (cases_lt (get_or rows i row).word most);
    present = are.ordered.present;
  };
  given = given;
  counts = λ n h. ⊎_elim
      (λ low. are.counts n low)
      (λ not. let above : bound ≤ n = omega (arith, not) in
      absent_above bound n rows above are.ordered ∙ sym (nothing tables) ∙ ap rule (sym (tables_absent bound n tables above are.given)))
      (cases_lt n bound);
} where
  none_above : (i : ℕ) (row : Row) → i < length rows → most ≤ (get_or rows i row).word → ⊥
  none_above i row h not =
      let n = (get_or rows i row).word in
      let here = count_of_row 0 bound rows (ordered-RiseWithin bound rows are.ordered) i row h in
      let some = are.ordered.present i row h in
      let made = are.counts n (are.ordered.words i row h) in
      let none = ap rule (tables_absent most n tables not given) ∙ nothing tables in
      omega (arith, here, some, made, none)

-- so it is the whole result
pub combined_whole : (k bound : ℕ) (rule : List ℕ → ℕ) (tables : List (List Row)) (rows : List Row) → MakesNothingOfNone rule
    → All (λ table. AreOrderedRows (4 ^ k) table) tables → AreCombinedBelow bound rule tables rows
    → IsCombined k rule tables rows
combined_whole k bound rule tables rows nothing given are =
    let all = combined_below_all (4 ^ k) bound rule tables rows nothing given are in
    record { ordered = all.ordered; counts = all.counts }

-- ---- no row is left

lesser_some : (heads : List (Option Row)) (least : ℕ) → least_from (Some least) heads ≡ None → ⊥
lesser_some [] least e = cc
lesser_some (None ∷ heads) least e = lesser_some heads least e
lesser_some (Some row ∷ heads) least e = lesser_some heads (min least row.word) e

-- of the first table
first_whole : {R : Type 0} (Gave Whole : R → List Row → Type 0) (reading : R) (head : Option Row) (rows : List Row)
    (heads : List (Option Row)) → HasTaken Gave Whole reading head rows → least_from None (head ∷ heads) ≡ None
    → Whole reading rows × (least_from None heads ≡ None)
first_whole Gave Whole reading None rows heads taken none = (taken, none)
first_whole Gave Whole reading (Some row) rows heads taken none = absurd (lesser_some heads row.word none)

-- the tables are whole
pub are_whole : {R F : Type 0} {G : Ghosts R F} (Gave Whole : R → List Row → Type 0) (aheads : List (Ahead R F G))
    (tables : List (List Row)) → HaveTaken Gave Whole aheads tables → least_from None (heads_of aheads) ≡ None
    → AreWhole Whole aheads tables
are_whole Gave Whole [] [] taken none = tt
are_whole Gave Whole [] (rows ∷ tables) taken none = absurd taken
are_whole Gave Whole (ahead ∷ aheads) [] taken none = absurd taken
are_whole Gave Whole (ahead ∷ aheads) (rows ∷ tables) taken none =
    let first = first_whole Gave Whole ahead.reading ahead.head rows (heads_of aheads) taken.0 none in
    (first.0, are_whole Gave Whole aheads tables taken.1 first.1)

-- if no row comes any more, the tables that were read are whole, and the rows are the result; `words`: the tables have
-- words of k bases, as a whole table text does
pub is_combined : {R F : Type 0} {G : Ghosts R F} (Gave Whole : R → List Row → Type 0) (k : ℕ) (rule : List ℕ → ℕ)
    (aheads : List (Ahead R F G)) (rows : List Row) → MakesNothingOfNone rule
    → (words : (tables : List (List Row)) → AreWhole Whole aheads tables → All (λ table. AreOrderedRows (4 ^ k) table) tables)
    → GoesOn Gave Whole rule aheads rows None
    → (tables : List (List Row)) × AreWhole Whole aheads tables × IsCombined k rule tables rows
is_combined Gave Whole k rule aheads rows nothing words ends =
    let tables = ends.1 in
    let whole = are_whole Gave Whole aheads tables ends.2.taken ends.3 in
    (tables, whole, combined_whole k ends.0 rule tables rows nothing (words tables whole) ends.2.combined)
