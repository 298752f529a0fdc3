-- The words of several tables, visited one after another.
use Rattle.std.proofs.Common.{◌≡◌, ℕ, zero, suc, ◌+◌, ◌^◌, ◌<◌, ◌≤◌, ◌==◌, ◌&&◌, true, false, min, All, List, [], ◌∷◌, ◌++◌, map, if◌then◌else◌, ⊎_elim, ◌⊎◌, refl, ap, ap₂, sym, ◌∙◌, subst, arith, inl, inr}
use Rattle.std.specs.Prelude.{Option, Some, None, IfSome}
use Rattle.std.proofs.Math.Bool.{and-false}
use Rattle.std.proofs.lemmas.Bool.{cases_lt, ne_eqb}
use Rattle.kc_tally.specs.declared.row.Row.{Row}
use Rattle.kc_tally.specs.Tally.{AreOrderedRows}
use Rattle.kc_combine.specs.declared.ahead.Ahead.{Ahead}
use Rattle.kc_combine.specs.declared.gives_rows.GivesRows.{Ghosts}
use Rattle.kc_combine.specs.Aheads.{BeginAt, HasTaken, HaveTaken, count_at, heads_of, least_from, whences_of}
use Rattle.kc_combine.specs.Combined.{TakeRows, counts_in, no_counts_in, none_has}
use Rattle.kc_combine.specs.Compared.{counts_below}
use Rattle.kc_combine.specs.Walks.{HaveVisited, IsVisiting}
use Rattle.kc_combine.specs.Whences.{Whence}
use Rattle.kc_combine.specs.WrittenTables.{StandAtStart, no_rows}
use Rattle.kc_combine.proofs.AheadsLemmas.{last_present}
use Rattle.kc_combine.proofs.BoundLemmas.{are_whole}
use Rattle.kc_combine.proofs.CombinedLemmas.{tables_absent, tables_apart, tables_here, tables_ordered}
use Rattle.kc_combine.proofs.WalkLemmas.{least_begins, least_from_bound}
use Rattle.kc_combine.proofs.WrittenLemmas.{begin_zero, none_ordered, whole_words}

-- ---- the words below a bound

no_words : (tables : List (List Row)) → counts_below 0 tables ≡ []
unfolding counts_below
no_words tables = refl

-- a word that no table has is left out
word_left_out : (word : ℕ) (tables : List (List Row)) → none_has (counts_in tables word) ≡ true
    → counts_below (suc word) tables ≡ counts_below word tables
unfolding counts_below
word_left_out word tables none = ap (λ b. if b then counts_below word tables else counts_below word tables ++ counts_in tables word ∷ []) none

-- any other word comes behind those before it
word_put : (word : ℕ) (tables : List (List Row)) → none_has (counts_in tables word) ≡ false
    → counts_below (suc word) tables ≡ counts_below word tables ++ counts_in tables word ∷ []
unfolding counts_below
word_put word tables some = ap (λ b. if b then counts_below word tables else counts_below word tables ++ counts_in tables word ∷ []) some

-- words with the same counts in other tables are the same there
same_words : (n : ℕ) (tables others : List (List Row)) → ((m : ℕ) → m < n → counts_in tables m ≡ counts_in others m)
    → counts_below n tables ≡ counts_below n others
unfolding counts_below
same_words zero tables others same = refl
same_words (suc n) tables others same =
    ap₂ (λ counts words. if none_has counts then words else words ++ counts ∷ []) (same n (omega arith))
    (same_words n tables others (λ m h. same m (omega (arith, h))))

none_counted : (tables : List (List Row)) → none_has (no_counts_in tables) ≡ true
none_counted [] = refl
none_counted (table ∷ tables) = none_counted tables

-- above a bound of the words there is no word
no_more_words : (bound n : ℕ) (tables : List (List Row)) → bound ≤ n → All (λ table. AreOrderedRows bound table) tables
    → counts_below n tables ≡ counts_below bound tables
no_more_words bound zero tables least are = ap (λ m. counts_below m tables) (let same : 0 ≡ bound = omega (arith, least) in same)
no_more_words bound (suc n) tables least are = ⊎_elim
    (λ (less : n < bound). ap (λ m. counts_below m tables) (let same : suc n ≡ bound = omega (arith, least, less) in same))
    (λ (not : bound ≤ n). word_left_out n tables (ap none_has (tables_absent bound n tables not are) ∙ none_counted tables)
    ∙ no_more_words bound n tables not are)
    (cases_lt n bound)

-- so two bounds of the words have the same words below them
as_many_words : (bound more : ℕ) (tables : List (List Row)) → All (λ table. AreOrderedRows bound table) tables
    → All (λ table. AreOrderedRows more table) tables → counts_below bound tables ≡ counts_below more tables
as_many_words bound more tables are also = ⊎_elim
    (λ (less : bound < more). sym (no_more_words bound more tables (omega (arith, less)) are))
    (λ (not : more ≤ bound). no_more_words more bound tables not also)
    (cases_lt bound more)

-- the next word, whose row is taken from each table that has it
next_word : (bound word : ℕ) (befores afters : List (List Row)) (counts : List ℕ) → bound ≤ word
    → All (λ table. AreOrderedRows bound table) befores → TakeRows befores afters word counts → none_has counts ≡ false
    → counts_below (word + 1) afters ≡ counts_below bound befores ++ counts ∷ []
next_word bound word befores afters counts least are take some =
    let here = tables_here bound word befores afters counts least are take in
    let before = same_words word afters befores (λ m h. tables_apart word m befores afters counts (λ e. omega (arith, e, h)) take)
    ∙ no_more_words bound word befores least are in
    ap (λ m. counts_below m afters) (let one : word + 1 ≡ suc word = omega arith in one)
    ∙ word_put word afters (ap none_has here ∙ some)
    ∙ ap₂ (λ words counts. words ++ counts ∷ []) before here

-- ---- a table has the least word

counted_here : (count : ℕ) (counts : List ℕ) → 1 ≤ count → none_has (count ∷ counts) ≡ false
counted_here count counts some = ap (λ b. b && none_has counts) (ne_eqb count 0 (λ e. omega (arith, e, some)))

counted_later : (count : ℕ) (counts : List ℕ) → none_has counts ≡ false → none_has (count ∷ counts) ≡ false
counted_later count counts some = ap (λ b. (count == 0) && b) some ∙ and-false (count == 0)

count_of_head : (word : ℕ) (row : Row) → row.word ≡ word → count_at word (Some row) ≡ row.count
count_of_head word row is = grind (arith, is)

-- the next rows have counts
abbrev HaveCounts : List (Option Row) → Type 0
HaveCounts [] = Unit {0}
HaveCounts (head ∷ heads) = IfSome head (λ row. 1 ≤ row.count) × HaveCounts heads

some-inj : {a b : ℕ} → ◌≡◌ {A = Option ℕ} (Some a) (Some b) → a ≡ b
some-inj e = cc

none-some : {a : ℕ} → ◌≡◌ {A = Option ℕ} None (Some a) → ⊥
none-some e = cc

module _ (word : ℕ) where
  with_head : (row : Row) (heads : List (Option Row)) → 1 ≤ row.count → row.word ≡ word
      → none_has (map (count_at word) (Some row ∷ heads)) ≡ false
  with_head row heads some is =
      let same = count_of_head word row is in
      counted_here (count_at word (Some row)) (map (count_at word) heads) (omega (arith, same, some))

  -- the least word is the one that it began with, or that of a row
  least_has : (least : Option ℕ) (heads : List (Option Row)) → HaveCounts heads → least_from least heads ≡ Some word
      → (least ≡ Some word) ⊎ (none_has (map (count_at word) heads) ≡ false)
  least_has least [] have e = inl e
  least_has None (None ∷ heads) have e = least_has None heads have.1 e
  least_has (Some least) (None ∷ heads) have e = least_has (Some least) heads have.1 e
  least_has None (Some row ∷ heads) have e = ⊎_elim
      (λ (is : Some row.word ≡ Some word). inr (with_head row heads have.0 (some-inj is)))
      (λ (some : none_has (map (count_at word) heads) ≡ false). inr (counted_later (count_at word (Some row)) (map (count_at word) heads) some))
      (least_has (Some row.word) heads have.1 e)
  least_has (Some least) (Some row ∷ heads) have e = ⊎_elim
      (λ (is : Some (min least row.word) ≡ Some word). let same = some-inj is in ⊎_elim
      (λ (less : least < row.word). let first : least ≡ word = omega (arith, same, less) in inl (ap (λ (n : ℕ). Some n) first))
      (λ (not : row.word ≤ least). inr (with_head row heads have.0 (omega (arith, same, not))))
      (cases_lt least row.word))
      (λ (some : none_has (map (count_at word) heads) ≡ false). inr (counted_later (count_at word (Some row)) (map (count_at word) heads) some))
      (least_has (Some (min least row.word)) heads have.1 e)

module _ {R : Type 0} (Gave Whole : R → List Row → Type 0) (whence : R → Whence)
    (law : (reading : R) (rows : List Row) → Gave reading rows → AreOrderedRows (4 ^ (whence reading).k) rows) where
  has_count : (reading : R) (head : Option Row) (rows : List Row) → HasTaken Gave Whole reading head rows
      → IfSome head (λ row. 1 ≤ row.count)
  has_count reading None rows taken = tt
  has_count reading (Some next) rows taken =
      last_present (4 ^ (whence reading).k) rows next (law reading (rows ++ next ∷ []) taken)

  have_counts : {F : Type 0} {G : Ghosts R F} (aheads : List (Ahead R F G)) (tables : List (List Row)) → HaveTaken Gave Whole aheads tables
      → HaveCounts (heads_of aheads)
  have_counts [] tables taken = tt
  have_counts (ahead ∷ aheads) [] taken = absurd taken
  have_counts (ahead ∷ aheads) (rows ∷ tables) taken =
      (has_count ahead.reading ahead.head rows taken.0, have_counts aheads tables taken.1)

  some_has : {F : Type 0} {G : Ghosts R F} (word : ℕ) (aheads : List (Ahead R F G)) (tables : List (List Row)) (counts : List ℕ)
      → HaveTaken Gave Whole aheads tables → least_from None (heads_of aheads) ≡ Some word
      → counts ≡ map (count_at word) (heads_of aheads) → none_has counts ≡ false
  some_has word aheads tables counts taken e are = ap none_has are ∙ ⊎_elim
      (λ (is : None ≡ Some word). absurd (none-some is))
      (λ (some : none_has (map (count_at word) (heads_of aheads)) ≡ false). some)
      (least_has word None (heads_of aheads) (have_counts aheads tables taken) e)

-- ---- one word after another

module _ {R F : Type 0} {G : Ghosts R F} (Gave Whole : R → List Row → Type 0) where
  pub visits_from_start : (Visited : List (List ℕ) → Type 0) (aheads : List (Ahead R F G)) → StandAtStart Gave Whole aheads
      → Visited [] → IsVisiting Gave Whole Visited 0 (no_rows aheads) aheads
  visits_from_start Visited aheads start none = record {
    taken = start;
    begin = begin_zero (heads_of aheads);
    given = none_ordered aheads;
    visited = subst Visited (sym (no_words (no_rows aheads))) none;
  }

  -- the next word is visited
  pub visits_next : (whence : R → Whence) → ((reading : R) (rows : List Row) → Gave reading rows → AreOrderedRows (4 ^ (whence reading).k) rows)
      → (Visited VisitedNext : List (List ℕ) → Type 0) (word : ℕ) (aheads later : List (Ahead R F G)) (counts : List ℕ)
      → least_from None (heads_of aheads) ≡ Some word
      → ((tables : List (List Row)) → HaveTaken Gave Whole aheads tables
      → (after : List (List Row)) × TakeRows tables after word counts × HaveTaken Gave Whole later after)
      → (BeginAt word (heads_of aheads) → BeginAt (word + 1) (heads_of later))
      → counts ≡ map (count_at word) (heads_of aheads)
      → ((words : List (List ℕ)) → Visited words → VisitedNext (words ++ counts ∷ []))
      → (bound : ℕ) (tables : List (List Row)) → IsVisiting Gave Whole Visited bound tables aheads
      → (next : ℕ) × (after : List (List Row)) × IsVisiting Gave Whole VisitedNext next after later
  visits_next whence law Visited VisitedNext word aheads later counts least takes rise are visits bound tables visiting =
      let took = takes tables visiting.taken in
      let above = least_from_bound bound word (heads_of aheads) visiting.begin least in
      let some = some_has Gave Whole whence law word aheads tables counts visiting.taken least are in (
        word + 1,
        took.0,
        record {
          taken = took.2;
          begin = rise (least_begins word None (heads_of aheads) least);
          given = tables_ordered bound word tables took.0 counts above visiting.given took.1;
          visited = subst VisitedNext (sym (next_word bound word tables took.0 counts above visiting.given took.1 some))
              (visits (counts_below bound tables) visiting.visited);
        },
      )

  -- no word is left
  pub visits_all : (whence : R → Whence) → ((reading : R) (rows : List Row) → Whole reading rows → AreOrderedRows (4 ^ (whence reading).k) rows)
      → (Visited VisitedAll : List (List ℕ) → Type 0) (before aheads : List (Ahead R F G))
      → whences_of whence aheads ≡ whences_of whence before → least_from None (heads_of aheads) ≡ None
      → ((words : List (List ℕ)) → Visited words → VisitedAll words)
      → (bound : ℕ) (tables : List (List Row)) → IsVisiting Gave Whole Visited bound tables aheads
      → HaveVisited Whole whence VisitedAll before aheads
  visits_all whence law Visited VisitedAll before aheads same none visits bound tables visiting =
      let whole = are_whole Gave Whole aheads tables visiting.taken none in
      record {
        tables = tables;
        whole = whole;
        visited = λ k have.
            let kept = subst (λ (froms : List Whence). All (λ from. from.k ≡ k) froms) (sym same) have in
            let words = whole_words Whole whence k law aheads tables kept whole in
            visits (counts_below (4 ^ k) tables)
            (subst Visited (as_many_words bound (4 ^ k) tables visiting.given words) visiting.visited);
      }
