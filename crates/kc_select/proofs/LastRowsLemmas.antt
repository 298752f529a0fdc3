-- What the last rows of a table show of a count.
use Rattle.std.proofs.Common.{◌≡◌, ℕ, ◌<◌, eqb, List, [], ◌∷◌, ◌++◌, map, All, refl, sym, ◌∙◌, ap, subst, arith, append_assoc, eq-eqb, ne_eqb}
use Rattle.std.specs.List.Sorted.{IsStrictlyIncreasing}
use Rattle.std.proofs.lemmas.Bool.{cond-true, cond-false}
use Rattle.std.proofs.lemmas.List.Elements.{All-head, All-tail}
use Rattle.kc_tally.specs.declared.row.Row.{Row}
use Rattle.kc_tally.specs.Tally.{count_of}
use Rattle.kc_select.specs.LastRows.{AreLast}
use Rattle.kc_select.proofs.SolidWordsLemmas.{first_least, tail}

abbrev pub Rise : List Row → Type 0
Rise rows = IsStrictlyIncreasing (map (λ (row : Row). row.word) rows)

pub last-behind : (all rows front rest : List Row) → AreLast all rows → front ++ rest ≡ rows → AreLast all rest
last-behind all rows front rest last is =
    (last.0 ++ front, append_assoc last.0 front rest ∙ ap (λ rs. last.0 ++ rs) is ∙ last.1)

pub last-trans : (all rows rest : List Row) → AreLast all rows → AreLast rows rest → AreLast all rest
last-trans all rows rest last then = last-behind all rows then.0 rest last then.1

tail-rises : (row : Row) (rows : List Row) → Rise (row ∷ rows) → Rise rows
tail-rises row rows rising = tail row.word (map (λ (r : Row). r.word) rows) rising

-- a row after the first has a greater word
later : (first row : Row) (before rest : List Row) → Rise (first ∷ before ++ row ∷ rest) → first.word < row.word
later first row before rest rising = by before (first_least first (before ++ row ∷ rest) rising)
  where
    by : (between : List Row) → All (λ r. first.word < r.word) (between ++ row ∷ rest) → first.word < row.word
    by [] greater = All-head (λ r. first.word < r.word) row rest greater
    by (next ∷ between) greater = by between (All-tail (λ r. first.word < r.word) next (between ++ row ∷ rest) greater)

shown-behind : (row : Row) (before rest : List Row) → Rise (before ++ row ∷ rest)
    → count_of (before ++ row ∷ rest) row.word ≡ row.count
shown-behind row [] rest rising =
    cond-true (eqb row.word row.word) row.count (count_of rest row.word) (eq-eqb row.word row.word refl)
shown-behind row (first ∷ before) rest rising =
    let less = later first row before rest rising in
    cond-false (eqb first.word row.word) first.count (count_of (before ++ row ∷ rest) row.word)
    (ne_eqb first.word row.word (λ e. omega (arith, less, e)))
    ∙ shown-behind row before rest (tail-rises first (before ++ row ∷ rest) rising)

passed-behind : (row : Row) (before rest : List Row) (word : ℕ) → row.word < word → Rise (before ++ row ∷ rest)
    → count_of (before ++ row ∷ rest) word ≡ count_of rest word
passed-behind row [] rest word under rising =
    cond-false (eqb row.word word) row.count (count_of rest word) (ne_eqb row.word word (λ e. omega (arith, under, e)))
passed-behind row (first ∷ before) rest word under rising =
    let less = later first row before rest rising in
    cond-false (eqb first.word word) first.count (count_of (before ++ row ∷ rest) word)
    (ne_eqb first.word word (λ e. omega (arith, less, under, e)))
    ∙ passed-behind row before rest word under (tail-rises first (before ++ row ∷ rest) rising)

rest-rises : (before rows : List Row) → Rise (before ++ rows) → Rise rows
rest-rises [] rows rising = rising
rest-rises (first ∷ before) rows rising = rest-rises before rows (tail-rises first (before ++ rows) rising)

absent : (rows : List Row) (word : ℕ) → All (λ row. word < row.word) rows → count_of rows word ≡ 0
absent [] word greater = refl
absent (row ∷ rows) word greater =
    let more = All-head (λ r. word < r.word) row rows greater in
    cond-false (eqb row.word word) row.count (count_of rows word) (ne_eqb row.word word (λ e. omega (arith, more, e)))
    ∙ absent rows word (All-tail (λ r. word < r.word) row rows greater)

-- a row shows the count of its word
pub shown : (all rows rest : List Row) (row : Row) (word : ℕ) → AreLast all rows → rows ≡ row ∷ rest → Rise all
    → row.word ≡ word → row.count ≡ count_of all word
shown all rows rest row word last is rising same =
    let whole : last.0 ++ row ∷ rest ≡ all = ap (λ rs. last.0 ++ rs) (sym is) ∙ last.1 in
    sym (shown-behind row last.0 rest (subst Rise (sym whole) rising))
    ∙ ap (λ rs. count_of rs row.word) whole ∙ ap (count_of all) same

-- the rows after one with a lesser word have the same count as all
pub passed : (all rows rest : List Row) (row : Row) (word : ℕ) → AreLast all rows → rows ≡ row ∷ rest → Rise all
    → row.word < word → count_of rest word ≡ count_of all word
passed all rows rest row word last is rising under =
    let whole : last.0 ++ row ∷ rest ≡ all = ap (λ rs. last.0 ++ rs) (sym is) ∙ last.1 in
    sym (passed-behind row last.0 rest word under (subst Rise (sym whole) rising)) ∙ ap (λ rs. count_of rs word) whole

-- rows of which the first has a greater word lack the word
pub missing : (all rows rest : List Row) (row : Row) (word : ℕ) → AreLast all rows → rows ≡ row ∷ rest → Rise all
    → word < row.word → count_of rows word ≡ 0
missing all rows rest row word last is rising over =
    let whole : last.0 ++ row ∷ rest ≡ all = ap (λ rs. last.0 ++ rs) (sym is) ∙ last.1 in
    let least = first_least row rest (rest-rises last.0 (row ∷ rest) (subst Rise (sym whole) rising)) in
    ap (λ rs. count_of rs word) is
    ∙ cond-false (eqb row.word word) row.count (count_of rest word) (ne_eqb row.word word (λ e. omega (arith, over, e)))
    ∙ absent rest word (λ k d h. let more = least k d h in omega (arith, over, more))
