-- Tables that are read row by row, each with its next row already read.
-- Source: this project's own.
use Rattle.std.specs.Prelude.{◌≡◌, ◌⊎◌, ℕ, zero, suc, ◌+◌, ◌≤◌, ◌==◌, All, IfSome, List, map, [], ◌∷◌, ◌++◌, Option}
use Rattle.std.specs.Prelude.{None, Some, if◌then◌else◌}
use Rattle.kc_tally.specs.declared.row.Row.{Row}
use Rattle.kc_combine.specs.declared.ahead.Ahead.{Ahead}
use Rattle.kc_combine.specs.declared.gives_rows.GivesRows.{Ghosts}
use Rattle.kc_combine.specs.Combined.{TakesRow}
use Rattle.kc_combine.specs.Whences.{Whence}
use Rattle.kc_tally.specs.Sum.{lesser}

-- These rows of a table were taken, and the next one is already read. `Gave` holds for a reading and the rows that it
-- has given so far, and `Whole` if they are all of its rows.
abbrev pub HasTaken : {R : Type 0} → (R → List Row → Type 0) → (R → List Row → Type 0) → R → Option Row → List Row
    → Type 0
HasTaken Gave Whole reading None rows = Whole reading rows
HasTaken Gave Whole reading (Some next) rows = Gave reading (rows ++ next ∷ [])

-- the same for each table
abbrev pub HaveTaken : {R F : Type 0} {G : Ghosts R F} → (R → List Row → Type 0) → (R → List Row → Type 0)
    → List (Ahead R F G) → List (List Row) → Type 0
HaveTaken Gave Whole [] [] = Unit {0}
HaveTaken Gave Whole (ahead ∷ aheads) (rows ∷ tables) =
    HasTaken Gave Whole ahead.reading ahead.head rows × HaveTaken Gave Whole aheads tables
HaveTaken Gave Whole aheads tables = ⊥

-- the next rows
abbrev pub heads_of : {R F : Type 0} {G : Ghosts R F} → List (Ahead R F G) → List (Option Row)
heads_of aheads = map (λ ahead. ahead.head) aheads

-- the next row, if there is one, has this word or a greater one
abbrev pub BeginsAt : ℕ → Option Row → Type 0
BeginsAt word head = IfSome head (λ row. word ≤ row.word)

-- the same for each of these
abbrev pub BeginAt : ℕ → List (Option Row) → Type 0
BeginAt word [] = Unit {0}
BeginAt word (head ∷ heads) = BeginsAt word head × BeginAt word heads

-- the first i of them begin after this word, and the others at it or after it
abbrev pub BeginTo : ℕ → ℕ → List (Option Row) → Type 0
BeginTo zero word heads = BeginAt word heads
BeginTo (suc i) word [] = ⊥
BeginTo (suc i) word (head ∷ heads) = BeginsAt (word + 1) head × BeginTo i word heads

-- one of these rows is this one
abbrev pub HasHead : List (Option Row) → Row → Type 0
HasHead [] row = ⊥
HasHead (head ∷ heads) row = (head ≡ Some row) ⊎ HasHead heads row

-- the word of a row, if there is one
abbrev pub word_of : Option Row → Option ℕ
word_of None = None
word_of (Some row) = Some row.word

-- the count of this word in a row, 0 if it has another word or there is no row
abbrev pub count_at : ℕ → Option Row → ℕ
count_at word None = 0
count_at word (Some row) = if row.word == word then row.count else 0

-- the first i tables had these counts of the word in their next rows, and the other next rows are unchanged
abbrev pub HadCountsTo : ℕ → ℕ → List (Option Row) → List (Option Row) → List ℕ → Type 0
HadCountsTo zero word olds news counts = news ≡ olds
HadCountsTo (suc i) word (old ∷ olds) (new ∷ news) (count ∷ counts) =
    (count ≡ count_at word old) × HadCountsTo i word olds news counts
HadCountsTo (suc i) word olds news counts = ⊥

-- the least of this word and the words of these rows, if there is any
abbrev pub least_from : Option ℕ → List (Option Row) → Option ℕ
least_from least [] = least
least_from least (head ∷ heads) = least_from (lesser least (word_of head)) heads

-- the least word of these rows, or None if there is no row
abbrev pub IsLeastWord : List (Option Row) → Option ℕ → Type 0
IsLeastWord heads None = All (λ head. head ≡ None) heads
IsLeastWord heads (Some word) =
    All (λ head. IfSome head (λ row. word ≤ row.word)) heads × ((row : Row) × HasHead heads row × (row.word ≡ word))

-- the rows of this word, with these counts, were taken from the first i tables
abbrev pub HaveTakenTo : {R F : Type 0} {G : Ghosts R F} → (R → List Row → Type 0) → (R → List Row → Type 0) → ℕ
    → List (Ahead R F G) → List (List Row) → List (List Row) → ℕ → List ℕ → Type 0
HaveTakenTo Gave Whole zero aheads befores afters word counts = HaveTaken Gave Whole aheads befores
HaveTakenTo Gave Whole (suc i) (ahead ∷ aheads) (before ∷ befores) (after ∷ afters) word (count ∷ counts) =
    TakesRow before after word count × HasTaken Gave Whole ahead.reading ahead.head after
    × HaveTakenTo Gave Whole i aheads befores afters word counts
HaveTakenTo Gave Whole i aheads befores afters word counts = ⊥

-- what stays the same of each table while its rows are given
abbrev pub whences_of : {R F : Type 0} {G : Ghosts R F} → (R → Whence) → List (Ahead R F G) → List Whence
whences_of whence aheads = map (λ ahead. whence ahead.reading) aheads

-- the words of each table have this length
abbrev pub HaveLength : {R F : Type 0} {G : Ghosts R F} → (R → Whence) → ℕ → List (Ahead R F G) → Type 0
HaveLength whence k aheads = All (λ from. from.k ≡ k) (whences_of whence aheads)

-- these rows were taken from one of the tables, then one more, and after that the table failed with this fault. `Fails`
-- holds for a reading, the rows that it gave, and the fault after them
abbrev pub FailsAt : {R F : Type 0} {G : Ghosts R F} → (R → List Row → F → Type 0) → List (Ahead R F G)
    → List (List Row) → F → Type 0
FailsAt Fails [] [] fault = ⊥
FailsAt Fails (ahead ∷ aheads) (rows ∷ tables) fault =
    ((row : Row) × Fails ahead.reading (rows ++ row ∷ []) fault) ⊎ FailsAt Fails aheads tables fault
FailsAt Fails aheads tables fault = ⊥

-- these rows are all rows of the tables
abbrev pub AreWhole : {R F : Type 0} {G : Ghosts R F} → (R → List Row → Type 0) → List (Ahead R F G)
    → List (List Row) → Type 0
AreWhole Whole [] [] = Unit {0}
AreWhole Whole (ahead ∷ aheads) (rows ∷ tables) = Whole ahead.reading rows × AreWhole Whole aheads tables
AreWhole Whole aheads tables = ⊥
