-- Facts about combined tables, for all tables.
use Rattle.std.specs.Prelude.{◌≡◌, ◌↔◌, ℕ, ◌^◌, ◌≤◌, Bool, All, List, [], ◌∷◌, sum_by}
use Rattle.kc_tally.specs.declared.row.Row.{Row}
use Rattle.kc_tally.specs.Sum.{IsSum}
use Rattle.kc_tally.specs.Tally.{total_of, AreOrderedRows, AreRows}
use Rattle.kc_combine.specs.Combined.{first_of, IsCombined, MakesNothingOfNone, sum_of}

-- tables have a combination by each rule
abbrev pub HasResult : Type 0
HasResult = (k : ℕ) (rule : List ℕ → ℕ) (tables : List (List Row)) → (rows : List Row) × IsCombined k rule tables rows

-- and only one
abbrev pub HasOneResult : Type 0
HasOneResult = (k : ℕ) (rule : List ℕ → ℕ) (tables : List (List Row)) (rows others : List Row)
    → IsCombined k rule tables rows → IsCombined k rule tables others → rows ≡ others

-- the combination of two tables by the sum of the counts is their sum
abbrev pub SumsTwo : Type 0
SumsTwo = (k : ℕ) (rows others sums : List Row)
    → IsCombined k sum_of (rows ∷ others ∷ []) sums ↔ IsSum k rows others sums

-- a combination of rows that tallies may have is again such rows, if its counts add up to at most 2 ^ 62
abbrev pub MakesRows : Type 0
MakesRows = (k : ℕ) (both : Bool) (rule : List ℕ → ℕ) (tables : List (List Row)) (rows : List Row)
    → MakesNothingOfNone rule → All (λ table. AreRows k both table) tables → IsCombined k rule tables rows
    → total_of rows ≤ 2 ^ 62 → AreRows k both rows

-- the counts of a sum add up to the counts of all tables
abbrev pub TotalOfSum : Type 0
TotalOfSum = (k : ℕ) (tables : List (List Row)) (rows : List Row) → All (λ table. AreOrderedRows (4 ^ k) table) tables
    → IsCombined k sum_of tables rows → total_of rows ≡ sum_by total_of tables

-- the rule gives at most the first count
abbrev pub KeepsFirst : (List ℕ → ℕ) → Type 0
KeepsFirst rule = (counts : List ℕ) → rule counts ≤ first_of counts

-- if so, the counts of the combination add up to at most those of the first table
abbrev pub TotalWithinFirst : Type 0
TotalWithinFirst = (k : ℕ) (rule : List ℕ → ℕ) (first : List Row) (others : List (List Row)) (rows : List Row)
    → KeepsFirst rule → AreOrderedRows (4 ^ k) first → IsCombined k rule (first ∷ others) rows
    → total_of rows ≤ total_of first

-- the rule gives no count above a bound of the counts that it is given
abbrev pub StaysWithin : (List ℕ → ℕ) → Type 0
StaysWithin rule = (most : ℕ) (counts : List ℕ) → All (λ count. count ≤ most) counts → rule counts ≤ most
