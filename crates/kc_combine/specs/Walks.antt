-- Several tables, combined word by word.
-- Source: this project's own.
use Rattle.std.specs.Prelude.{◌≡◌, ℕ, ◌-◌, ◌^◌, All, List, [], ◌∷◌, ◌++◌, Option, None, Some}
use Rattle.kc_tally.specs.declared.row.Row.{Row}
use Rattle.kc_tally.specs.Tally.{AreOrderedRows}
use Rattle.kc_combine.specs.declared.ahead.Ahead.{Ahead}
use Rattle.kc_combine.specs.declared.gives_rows.GivesRows.{Ghosts}
use Rattle.kc_combine.specs.Aheads.{AreWhole, BeginAt, FailsAt, HaveLength, HaveTaken, heads_of, least_from}
use Rattle.kc_combine.specs.Combined.{AreCombinedBelow, IsTooLarge}
use Rattle.kc_combine.specs.Compared.{counts_below, counts_of_words}
use Rattle.kc_combine.specs.Whences.{Whence}
use Rattle.kc_combine.specs.declared.combined_rows.WalkFault.{WalkFault}
use Rattle.kc_combine.specs.declared.combined_rows.WalkFault.TheVariants.{Table, TooLarge}

-- the rows below the bound were taken from the tables, and these rows combine them
pub record IsWalking {R F : Type 0} {G : Ghosts R F} (Gave Whole : R → List Row → Type 0) (rule : List ℕ → ℕ)
    (bound : ℕ) (tables : List (List Row)) (aheads : List (Ahead R F G)) (rows : List Row) : Type 0 where
  pub taken : HaveTaken Gave Whole aheads tables
  pub begin : BeginAt bound (heads_of aheads)
  pub combined : AreCombinedBelow bound rule tables rows

-- one more row was made; or no word is left, and all tables are at their ends
abbrev pub GoesOn : {R F : Type 0} {G : Ghosts R F} → (R → List Row → Type 0) → (R → List Row → Type 0) → (List ℕ → ℕ)
    → List (Ahead R F G) → List Row → Option Row → Type 0
GoesOn Gave Whole rule aheads rows (Some row) =
    (bound : ℕ) × (tables : List (List Row)) × IsWalking Gave Whole rule bound tables aheads (rows ++ row ∷ [])
GoesOn Gave Whole rule aheads rows None = (bound : ℕ) × (tables : List (List Row))
    × IsWalking Gave Whole rule bound tables aheads rows × (least_from None (heads_of aheads) ≡ None)

-- Why no row is made after these: a table has this fault after its next row; or the rule gives a count above 2 ^ 62 for
-- the next word.
abbrev pub StopsAt : {R F : Type 0} {G : Ghosts R F} → (R → List Row → Type 0) → (R → List Row → Type 0)
    → (R → List Row → F → Type 0) → (List ℕ → ℕ) → List (Ahead R F G) → List Row → WalkFault F → Type 0
StopsAt Gave Whole Fails rule aheads rows (Table fault) = (bound : ℕ) × (tables : List (List Row))
    × AreCombinedBelow bound rule tables rows × FailsAt Fails aheads tables fault
StopsAt Gave Whole Fails rule aheads rows TooLarge = (tables : List (List Row))
    × HaveTaken Gave Whole aheads tables × IsTooLarge rule tables rows

-- how far a word is from the greatest one
abbrev pub left_from : Option ℕ → ℕ
left_from None = 0
left_from (Some word) = 2 ^ 62 - word

-- ---- words that are visited

-- The rows below the bound were taken from the tables, and their words were visited. `Visited` holds for the counts of
-- the words that were visited, in order.
pub record IsVisiting {R F : Type 0} {G : Ghosts R F} (Gave Whole : R → List Row → Type 0)
    (Visited : List (List ℕ) → Type 0) (bound : ℕ) (tables : List (List Row))
    (aheads : List (Ahead R F G)) : Type 0 where
  pub taken : HaveTaken Gave Whole aheads tables
  pub begin : BeginAt bound (heads_of aheads)
  pub given : All (λ table. AreOrderedRows bound table) tables
  pub visited : Visited (counts_below bound tables)

-- all rows of the tables were taken, and all words of the length that their words have were visited
pub record HaveVisited {R F : Type 0} {G : Ghosts R F} (Whole : R → List Row → Type 0) (whence : R → Whence)
    (Visited : List (List ℕ) → Type 0) (before now : List (Ahead R F G)) : Type 0 where
  pub tables : List (List Row)
  pub whole : AreWhole Whole now tables
  pub visited : (k : ℕ) → HaveLength whence k before → Visited (counts_of_words k tables)
