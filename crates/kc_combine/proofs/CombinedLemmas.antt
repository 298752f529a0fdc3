-- Tables combined word by word, the least word next.
use Rattle.std.proofs.Common.{◌≡◌, ℕ, zero, suc, ◌+◌, ◌^◌, ◌<◌, ◌≤◌, ⊎_elim, List, [], ◌∷◌, ◌++◌, All, refl, ap, ap₂, sym, ◌∙◌, subst, arith, inl, inr}
use Rattle.std.proofs.lemmas.Bool.{cases_lt}
use Rattle.std.proofs.lemmas.List.Elements.{All-nil}
use Rattle.kc_tally.specs.declared.row.Row.{Row}
use Rattle.kc_tally.specs.Tally.{row_of, count_of, AreOrderedRows}
use Rattle.kc_combine.specs.Combined.{counts_in, no_counts_in, IsCombined, IsTooLarge, MakesNothingOfNone, TakesRow, TakeRows, AreCombinedBelow}
use Rattle.kc_tally.proofs.TalliedRows.{count_of_push, count_of_pushed, count_of-absent, ordered_push}

-- ---- one table

-- words below a bound are below a greater one
pub ordered_within : (bound more : ℕ) (rows : List Row) → bound ≤ more → AreOrderedRows bound rows → AreOrderedRows more rows
ordered_within bound more rows least are = record {
  rising = are.rising;
  words = λ i d h. let below = are.words i d h in omega (arith, below, least);
  present = are.present;
}

-- if a row of a greater word was appended to the rows, they are in order
pub taken_ordered : (bound word count : ℕ) (before after : List Row) → bound ≤ word → AreOrderedRows bound before → TakesRow before after word count
    → AreOrderedRows (word + 1) after
taken_ordered bound word count before after least are (inl took) =
    subst (AreOrderedRows (word + 1)) (sym took.0) (ordered_push word count before took.1 (ordered_within bound word before least are))
taken_ordered bound word count before after least are (inr none) =
    subst (AreOrderedRows (word + 1)) (sym none.0) (ordered_within bound (word + 1) before (omega (arith, least)) are)

-- the other words have the counts that they had
pub taken_apart : (word count n : ℕ) (before after : List Row) → (word ≡ n → ⊥) → TakesRow before after word count
    → count_of after n ≡ count_of before n
taken_apart word count n before after ne (inl took) = ap (λ rows. count_of rows n) took.0 ∙ count_of_push before (row_of word count) n ne
taken_apart word count n before after ne (inr none) = ap (λ rows. count_of rows n) none.0

-- a word that was not below the bound had none
pub absent_above : (bound n : ℕ) (rows : List Row) → bound ≤ n → AreOrderedRows bound rows → count_of rows n ≡ 0
absent_above bound n rows least are = count_of-absent rows n (ordered_within bound n rows least are).words

-- the word has this count
pub taken_here : (bound word count : ℕ) (before after : List Row) → bound ≤ word → AreOrderedRows bound before → TakesRow before after word count
    → count_of after word ≡ count
taken_here bound word count before after least are (inl took) =
    ap (λ rows. count_of rows word) took.0 ∙ count_of_pushed before (row_of word count) (ordered_within bound word before least are).words
taken_here bound word count before after least are (inr none) =
    ap (λ rows. count_of rows word) none.0 ∙ absent_above bound word before least are ∙ sym none.1

-- ---- all tables

-- those after the first
rest-of : {bound : ℕ} (first : List Row) (tables : List (List Row)) → All (λ table. AreOrderedRows bound table) (first ∷ tables)
    → All (λ table. AreOrderedRows bound table) tables
rest-of first tables are i d h = are (suc i) d (omega (arith, h))

pub all-of : {bound : ℕ} (first : List Row) (tables : List (List Row)) → AreOrderedRows bound first → All (λ table. AreOrderedRows bound table) tables
    → All (λ table. AreOrderedRows bound table) (first ∷ tables)
all-of first tables one rest zero d h = one
all-of first tables one rest (suc i) d h = rest i d (omega (arith, h))

pub tables_ordered : (bound word : ℕ) (befores afters : List (List Row)) (counts : List ℕ) → bound ≤ word
    → All (λ table. AreOrderedRows bound table) befores → TakeRows befores afters word counts
    → All (λ table. AreOrderedRows (word + 1) table) afters
tables_ordered bound word [] [] [] least are take = All-nil _
tables_ordered bound word [] [] (count ∷ counts) least are take = absurd take
tables_ordered bound word [] (after ∷ afters) counts least are take = absurd take
tables_ordered bound word (before ∷ befores) [] counts least are take = absurd take
tables_ordered bound word (before ∷ befores) (after ∷ afters) [] least are take = absurd take
tables_ordered bound word (before ∷ befores) (after ∷ afters) (count ∷ counts) least are take =
    all-of after afters (taken_ordered bound word count before after least (are zero before (omega arith)) take.0)
    (tables_ordered bound word befores afters counts least (rest-of before befores are) take.1)

pub tables_apart : (word n : ℕ) (befores afters : List (List Row)) (counts : List ℕ) → (word ≡ n → ⊥) → TakeRows befores afters word counts
    → counts_in afters n ≡ counts_in befores n
tables_apart word n [] [] [] ne take = refl
tables_apart word n [] [] (count ∷ counts) ne take = absurd take
tables_apart word n [] (after ∷ afters) counts ne take = absurd take
tables_apart word n (before ∷ befores) [] counts ne take = absurd take
tables_apart word n (before ∷ befores) (after ∷ afters) [] ne take = absurd take
tables_apart word n (before ∷ befores) (after ∷ afters) (count ∷ counts) ne take =
    ap₂ (λ c cs. c ∷ cs) (taken_apart word count n before after ne take.0) (tables_apart word n befores afters counts ne take.1)

pub tables_absent : (bound n : ℕ) (tables : List (List Row)) → bound ≤ n → All (λ table. AreOrderedRows bound table) tables
    → counts_in tables n ≡ no_counts_in tables
tables_absent bound n [] least are = refl
tables_absent bound n (table ∷ tables) least are =
    ap₂ (λ c cs. c ∷ cs) (absent_above bound n table least (are zero table (omega arith))) (tables_absent bound n tables least (rest-of table tables are))

pub tables_here : (bound word : ℕ) (befores afters : List (List Row)) (counts : List ℕ) → bound ≤ word
    → All (λ table. AreOrderedRows bound table) befores → TakeRows befores afters word counts
    → counts_in afters word ≡ counts
tables_here bound word [] [] [] least are take = refl
tables_here bound word [] [] (count ∷ counts) least are take = absurd take
tables_here bound word [] (after ∷ afters) counts least are take = absurd take
tables_here bound word (before ∷ befores) [] counts least are take = absurd take
tables_here bound word (before ∷ befores) (after ∷ afters) [] least are take = absurd take
tables_here bound word (before ∷ befores) (after ∷ afters) (count ∷ counts) least are take =
    ap₂ (λ c cs. c ∷ cs) (taken_here bound word count before after least (are zero before (omega arith)) take.0)
    (tables_here bound word befores afters counts least (rest-of before befores are) take.1)

-- ---- one word after another

-- before the first word
pub combined_none : (rule : List ℕ → ℕ) (tables : List (List Row)) → All (λ table. AreOrderedRows 0 table) tables
    → AreCombinedBelow 0 rule tables []
combined_none rule tables are = record {
  ordered = record { rising = λ k h. absurd (omega (arith, h)); words = All-nil _; present = All-nil _ };
  given = are;
  counts = λ n h. absurd (omega (arith, h));
}

-- the next word: its row is taken from each table that has it, and the rule's result for their counts is appended
pub combined_more : (bound word : ℕ) (rule : List ℕ → ℕ) (befores afters : List (List Row)) (rows more : List Row) (counts : List ℕ)
    → MakesNothingOfNone rule → bound ≤ word → AreCombinedBelow bound rule befores rows
    → TakeRows befores afters word counts → TakesRow rows more word (rule counts)
    → AreCombinedBelow (word + 1) rule afters more
combined_more bound word rule befores afters rows more counts nothing least are take put = record {
  ordered = taken_ordered bound word (rule counts) rows more least are.ordered put;
  given = tables_ordered bound word befores afters counts least are.given take;
  counts = λ n h. ⊎_elim (λ less. before n less) (λ not. here n (omega (arith, h, not))) (cases_lt n word);
} where
  here : (n : ℕ) → word ≡ n → count_of more n ≡ rule (counts_in afters n)
  here n is = subst (λ m. count_of more m ≡ rule (counts_in afters m)) is
      (taken_here bound word (rule counts) rows more least are.ordered put
      ∙ ap rule (sym (tables_here bound word befores afters counts least are.given take)))

  before : (n : ℕ) → n < word → count_of more n ≡ rule (counts_in afters n)
  before n less =
      let ne : word ≡ n → ⊥ = λ e. omega (arith, e, less) in
      let same = taken_apart word (rule counts) n rows more ne put in
      let alike = ap rule (tables_apart word n befores afters counts ne take) in
      ⊎_elim
      (λ low. same ∙ are.counts n low ∙ sym alike)
      (λ not. let above : bound ≤ n = omega (arith, not) in
      same ∙ absent_above bound n rows above are.ordered ∙ sym (nothing befores)
      ∙ ap rule (sym (tables_absent bound n befores above are.given)) ∙ sym alike)
      (cases_lt n bound)

-- no word is left
pub combined_all : (k bound : ℕ) (rule : List ℕ → ℕ) (tables : List (List Row)) (rows : List Row) → MakesNothingOfNone rule
    → bound ≤ 4 ^ k → AreCombinedBelow bound rule tables rows → IsCombined k rule tables rows
combined_all k bound rule tables rows nothing most are = record {
  ordered = ordered_within bound (4 ^ k) rows most are.ordered;
  counts = λ n h. ⊎_elim
      (λ low. are.counts n low)
      (λ not. let above : bound ≤ n = omega (arith, not) in
      absent_above bound n rows above are.ordered ∙ sym (nothing tables) ∙ ap rule (sym (tables_absent bound n tables above are.given)))
      (cases_lt n bound);
}

-- of the next word the rule makes a count above 2^62
pub is_too_large : (bound word : ℕ) (rule : List ℕ → ℕ) (befores afters : List (List Row)) (rows : List Row) (counts : List ℕ)
    → MakesNothingOfNone rule → bound ≤ word → AreCombinedBelow bound rule befores rows
    → TakeRows befores afters word counts → 2 ^ 62 < rule counts → IsTooLarge rule afters rows
is_too_large bound word rule befores afters rows counts nothing least are take above = record {
  word = word;
  ordered = ordered_within bound word rows least are.ordered;
  counts = λ n h.
      let ne : word ≡ n → ⊥ = λ e. omega (arith, e, h) in
      sym (count_of_push rows (row_of word (rule counts)) n ne) ∙ with_it.counts n (omega (arith, h));
  above = subst (λ cs. 2 ^ 62 < rule cs) (sym (tables_here bound word befores afters counts least are.given take)) above;
} where
  with_it : AreCombinedBelow (word + 1) rule afters (rows ++ row_of word (rule counts) ∷ [])
  with_it = combined_more bound word rule befores afters rows (rows ++ row_of word (rule counts) ∷ []) counts nothing least are take
      (inl (refl, omega (arith, above)))
