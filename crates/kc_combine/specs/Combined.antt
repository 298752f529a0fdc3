-- Tables combined word by word, by a rule for the counts of each word.
-- Source: our formats page ("Merging" and the commands over several tables); KMC's `simple` and `complex` and meryl's
-- set operations have the same rules.
use Rattle.std.specs.Prelude.{◌≡◌, ◌⊎◌, ℕ, ◌-◌, ◌^◌, ◌<◌, ◌≤◌, ◌&&◌, Bool, true, nat_le, ◌==◌, All}
use Rattle.std.specs.Prelude.{List, [], ◌∷◌, ◌++◌, map, min, sum_by, if◌then◌else◌}
use Rattle.kc_tally.specs.declared.row.Row.{Row}
use Rattle.kc_tally.specs.Tally.{row_of, count_of, AreOrderedRows}

-- ---- combinations

-- the counts of a word in the tables, in order, 0 for a table that lacks it
abbrev pub counts_in : List (List Row) → ℕ → List ℕ
counts_in tables n = map (λ rows. count_of rows n) tables

-- the counts of a word that no table has
abbrev pub no_counts_in : List (List Row) → List ℕ
no_counts_in tables = map (λ rows. 0) tables

-- the rows combine the tables by the rule: they are the finite map that gives each word of k bases the rule's result
-- for its counts in the tables, if that is not 0
pub record IsCombined (k : ℕ) (rule : List ℕ → ℕ) (tables : List (List Row)) (rows : List Row) : Type 0 where
  pub ordered : AreOrderedRows (4 ^ k) rows
  pub counts : (n : ℕ) → n < 4 ^ k → count_of rows n ≡ rule (counts_in tables n)

-- the rule gives 0 for a word that no table has
abbrev pub MakesNothingOfNone : (List ℕ → ℕ) → Type 0
MakesNothingOfNone rule = (tables : List (List Row)) → rule (no_counts_in tables) ≡ 0

-- ---- the rules

-- the sum of the counts
abbrev pub sum_of : List ℕ → ℕ
sum_of counts = sum_by (λ count. count) counts

-- whether every table has the word
abbrev pub all_have : List ℕ → Bool
all_have [] = true
all_have (count ∷ counts) = nat_le 1 count && all_have counts

-- whether no table has it
abbrev pub none_has : List ℕ → Bool
none_has [] = true
none_has (count ∷ counts) = (count == 0) && none_has counts

-- the least and the greatest of the counts, and the first
abbrev pub least_of : List ℕ → ℕ
least_of [] = 0
least_of (count ∷ []) = count
least_of (count ∷ next ∷ counts) = min count (least_of (next ∷ counts))

abbrev pub greatest_of : List ℕ → ℕ
greatest_of [] = 0
greatest_of (count ∷ counts) = if nat_le count (greatest_of counts) then greatest_of counts else count

abbrev pub first_of : List ℕ → ℕ
first_of [] = 0
first_of (count ∷ counts) = count

-- the result of `take` for a word that every table has; 0 for any other word
abbrev pub intersection : (List ℕ → ℕ) → List ℕ → ℕ
intersection take [] = 0
intersection take (count ∷ counts) = if all_have (count ∷ counts) then take (count ∷ counts) else 0

-- the first count of a word that no other table has
abbrev pub difference : List ℕ → ℕ
difference [] = 0
difference (count ∷ others) = if none_has others then count else 0

-- the first count minus the others, 0 if they are greater
abbrev pub difference_of_counts : List ℕ → ℕ
difference_of_counts [] = 0
difference_of_counts (count ∷ others) = count - sum_of others

-- the first count if it is between two bounds, otherwise 0
abbrev pub within : ℕ → ℕ → List ℕ → ℕ
within least most [] = 0
within least most (count ∷ others) = if nat_le least count && nat_le count most then count else 0

-- ---- word by word

-- a row of this word with this count was appended to the rows; or none was, and the count is 0
abbrev pub TakesRow : List Row → List Row → ℕ → ℕ → Type 0
TakesRow before after word count = ((after ≡ before ++ row_of word count ∷ []) × (1 ≤ count))
    ⊎ ((after ≡ before) × (count ≡ 0))

-- the same for each table, with these counts
abbrev pub TakeRows : List (List Row) → List (List Row) → ℕ → List ℕ → Type 0
TakeRows [] [] word [] = Unit {0}
TakeRows (before ∷ befores) (after ∷ afters) word (count ∷ counts) =
    TakesRow before after word count × TakeRows befores afters word counts
TakeRows befores afters word counts = ⊥

-- these rows combine the tables up to a word for which the rule gives a count above 2 ^ 62
pub record IsTooLarge (rule : List ℕ → ℕ) (tables : List (List Row)) (rows : List Row) : Type 0 where
  pub word : ℕ
  pub ordered : AreOrderedRows word rows
  pub counts : (n : ℕ) → n < word → count_of rows n ≡ rule (counts_in tables n)
  pub above : 2 ^ 62 < rule (counts_in tables word)

-- the rows combine the tables by the rule as far as the bound: all words of the tables and of the rows are below it
pub record AreCombinedBelow (bound : ℕ) (rule : List ℕ → ℕ) (tables : List (List Row)) (rows : List Row) : Type 0 where
  pub ordered : AreOrderedRows bound rows
  pub given : All (λ table. AreOrderedRows bound table) tables
  pub counts : (n : ℕ) → n < bound → count_of rows n ≡ rule (counts_in tables n)
