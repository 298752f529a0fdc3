-- The search for a word in ascending rows, and in parts of them.
use Rattle.std.proofs.Common.{◌≡◌, ◌≢◌, ℕ, zero, suc, ◌+◌, ◌-◌, ◌<◌, ◌≤◌, true, false, cond, eqb, List, [], ◌∷◌, ◌++◌, map, length, get_or, take, drop, All, refl, sym, ◌∙◌, ap, subst, arith, eq-eqb, ne_eqb, Result, Ok, Err, ⊎_elim}
use Rattle.std.specs.Prelude.{MatchResult, nat_lt}
use Rattle.std.specs.List.Sorted.{IsStrictlyIncreasing, IsSearchInRange, IsBinarySearchResult, IsNonDecreasingBy, IsPartitionPoint, IsPartitionedBy}
use Rattle.std.specs.Ordering.{nat_cmp, ordering_index}
use Rattle.std.proofs.lemmas.Bool.{cond-true, cond-false, cases_lt}
use Rattle.std.proofs.lemmas.Bool.Decides.{nat_tests}
use Rattle.std.proofs.lemmas.Cmp.{ranked}
use Rattle.std.proofs.lemmas.List.{length-map, get_or-map, length-append, map-append, append-nil, get_or_append_left, get_or-append-add, take-take, take_all}
use Rattle.std.proofs.lemmas.List.Sorted.{IsNonDecreasingBy-from_default, IsPartitionedBy-ltb}
use Rattle.kc_tally.specs.declared.row.Row.{Row}
use Rattle.kc_tally.specs.Tally.{count_of, row_of}
use Rattle.kc_tally.specs.Searching.{last_word}
use Rattle.kc_tally.proofs.Parts.{all_rows, parts-split, parts-next, long-front, long-next}

pub count_at : (rows : List Row) (word i : ℕ) (d : Row) → i < length rows → (get_or rows i d).word ≡ word
    → ((j : ℕ) → j < i → (get_or rows j d).word ≢ word) → count_of rows word ≡ (get_or rows i d).count
count_at [] word i d below is before = absurd (omega (arith, below))
count_at (row ∷ rows) word zero d below is before = cond-true (eqb row.word word) row.count (count_of rows word)
    (eq-eqb row.word word is)
count_at (row ∷ rows) word (suc i) d below is before =
    cond-false (eqb row.word word) row.count (count_of rows word) (ne_eqb row.word word (before 0 (omega arith)))
    ∙ count_at rows word i d (omega (arith, below)) is (λ j h. before (suc j) (omega (arith, h)))

count_absent : (rows : List Row) (word : ℕ) (d : Row) → ((j : ℕ) → j < length rows → (get_or rows j d).word ≢ word)
    → count_of rows word ≡ 0
count_absent [] word d none = refl
count_absent (row ∷ rows) word d none =
    cond-false (eqb row.word word) row.count (count_of rows word) (ne_eqb row.word word (none 0 (omega arith)))
    ∙ count_absent rows word d (λ j h. none (suc j) (omega (arith, h)))

far : (xs : List ℕ) → IsStrictlyIncreasing xs → (i n : ℕ) → i + n + 1 < length xs
    → get_or xs i 0 < get_or xs (i + n + 1) 0
far xs rising i zero h = let step = rising i (omega (arith, h)) in let e : i + 0 + 1 ≡ i + 1 =
    omega arith in subst (λ m. get_or xs i 0 < get_or xs m 0) (sym e) step
far xs rising i (suc n) h =
    let near = far xs rising i n (omega (arith, h)) in
    let step = rising (i + n + 1) (omega (arith, h)) in
    let e : i + suc n + 1 ≡ i + n + 1 + 1 = omega arith in
    subst (λ m. get_or xs i 0 < get_or xs m 0) (sym e) (omega (arith, near, step))

abbrev pub no_row : Row
no_row = row_of 0 0

pub word_at : (rows : List Row) (i : ℕ) → i < length rows
    → get_or (map (λ (row : Row). row.word) rows) i 0 ≡ (get_or rows i no_row).word
word_at rows i h = get_or-map (λ (row : Row). row.word) rows i no_row 0 h

pub rises : (rows : List Row) → IsStrictlyIncreasing (map (λ (row : Row). row.word) rows) → (i j : ℕ) → i < j
    → j < length rows → (get_or rows i no_row).word < (get_or rows j no_row).word
rises rows rising i j less h =
    let long = length-map rows (λ (row : Row). row.word) in
    let e : i + (j - i - 1) + 1 ≡ j = omega (arith, less) in
    let step = subst (λ m. get_or (map (λ (row : Row). row.word) rows) i 0 < get_or
    (map (λ (row : Row). row.word) rows) m 0) e
    (far (map (λ (row : Row). row.word) rows) rising i (j - i - 1) (omega (arith, e, h, long))) in
    let first = word_at rows i (omega (arith, less, h)) in
    let second = word_at rows j h in
    omega (arith, step, first, second)

comparisons_rise : (rows : List Row) (word : ℕ) → IsStrictlyIncreasing (map (λ (row : Row). row.word) rows)
    → IsNonDecreasingBy (λ (row : Row). ordering_index (nat_cmp row.word word)) rows
comparisons_rise rows word rising =
    IsNonDecreasingBy-from_default (λ (row : Row). ordering_index (nat_cmp row.word word)) rows no_row (λ i j le h.
    let up : (get_or rows i no_row).word ≤ (get_or rows j no_row).word =
    grind (arith, rises rows rising i j, λ (same : i ≡ j). ap (λ m. (get_or rows m no_row).word) same) in
    grind (arith, nat_tests))

-- what the binary search finds
pub searched : (rows : List Row) (word : ℕ) (r : Result ℕ ℕ)
    → IsStrictlyIncreasing (map (λ (row : Row). row.word) rows) → IsSearchInRange r (length rows)
    → IsBinarySearchResult (λ (row : Row). nat_cmp row.word word) rows r
    → MatchResult r (λ i. count_of rows word ≡ (get_or rows i no_row).count) (λ i. count_of rows word ≡ 0)
searched rows word (Ok i) rising within equal =
    let at : (get_or rows i no_row).word ≡ word = ranked _ word _ (sym (equal no_row)) in
    count_at rows word i no_row within at
    (λ j h same. let less = rises rows rising j i h within in omega (arith, less, same, at))
searched rows word (Err i) rising within parted =
    let split = parted (comparisons_rise rows word rising) in
    count_absent rows word no_row (λ j h same.
    ⊎_elim
    (λ (l : j < i). let below : (get_or rows j no_row).word < word =
    ranked _ word _ (sym (split.0 j no_row (omega arith) l)) in omega (arith, below, same))
    (λ (l : i ≤ j). let above : word < (get_or rows j no_row).word =
    ranked _ word _ (sym (split.1 j no_row l h)) in omega (arith, above, same))
    (cases_lt j i))

-- ---- parts of rows

abbrev pub words : List Row → List ℕ
words rows = map (λ (row : Row). row.word) rows

pub climbs : (xs : List ℕ) → IsStrictlyIncreasing xs → (i j : ℕ) → i < j → j < length xs → get_or xs i 0 < get_or xs j 0
climbs xs rising i j less h =
    let e : i + (j - i - 1) + 1 ≡ j = omega (arith, less) in
    subst (λ m. get_or xs i 0 < get_or xs m 0) e (far xs rising i (j - i - 1) (omega (arith, e, h)))

pub ascends : (xs : List ℕ) → IsStrictlyIncreasing xs → (i j : ℕ) → i ≤ j → j < length xs → get_or xs i 0 ≤ get_or xs j 0
ascends xs rising i j le h =
    ⊎_elim
    (λ (less : i < j). let up = climbs xs rising i j less h in omega (arith, up))
    (λ (more : j ≤ i). let same : i ≡ j = omega (arith, le, more) in let e = ap (λ m. get_or xs m 0) same in omega (arith, e))
    (cases_lt i j)

at-part : (front items back : List Row) (m : ℕ) → m < length items
    → get_or (words ((front ++ items) ++ back)) (length front + m) 0 ≡ get_or (words items) m 0
at-part front items back m h =
    let word = λ (row : Row). row.word in
    let long = length-map front word in
    let both = length-append front items in
    let wide = length-map (front ++ items) word in
    ap (λ xs. get_or xs (length front + m) 0) (map-append word (front ++ items) back)
    ∙ get_or_append_left (words (front ++ items)) (words back) 0 (length front + m) (omega (arith, h, both, wide))
    ∙ ap (λ xs. get_or xs (length front + m) 0) (map-append word front items)
    ∙ ap (λ n. get_or (words front ++ words items) (n + m) 0) (sym long)
    ∙ get_or-append-add (words front) (words items) m 0

behind : (front back : List Row) (m : ℕ) → get_or (words (front ++ back)) (length front + m) 0 ≡ get_or (words back) m 0
behind front back m =
    let word = λ (row : Row). row.word in
    ap (λ xs. get_or xs (length front + m) 0) (map-append word front back)
    ∙ ap (λ n. get_or (words front ++ words back) (n + m) 0) (sym (length-map front word))
    ∙ get_or-append-add (words front) (words back) m 0

before : (front back : List Row) (m : ℕ) → m < length front → get_or (words (front ++ back)) m 0 ≡ get_or (words front) m 0
before front back m h =
    let word = λ (row : Row). row.word in
    let long = length-map front word in
    ap (λ xs. get_or xs m 0) (map-append word front back) ∙ get_or_append_left (words front) (words back) 0 m (omega (arith, h, long))

-- the rows before a part, its own, and those after it
joined-around : (parts : List (List Row)) (i : ℕ) (d : List Row) → i < length parts
    → all_rows parts ≡ (all_rows (take i parts) ++ (get_or parts i d)) ++ all_rows (drop (i + 1) parts)
joined-around parts i d h =
    parts-split (λ (part : List Row). part) parts (i + 1) ∙ ap (λ rows. rows ++ all_rows (drop (i + 1) parts)) (parts-next (λ (part : List Row). part) parts i d h)

part-words : (parts : List (List Row)) (i : ℕ) (d : List Row) → i < length parts → (m : ℕ) → m < length (get_or parts i d)
    → get_or (words (all_rows parts)) (length (all_rows (take i parts)) + m) 0 ≡ get_or (words (get_or parts i d)) m 0
part-words parts i d h m within =
    ap (λ rows. get_or (words rows) (length (all_rows (take i parts)) + m) 0) (joined-around parts i d h)
    ∙ at-part (all_rows (take i parts)) (get_or parts i d) (all_rows (drop (i + 1) parts)) m within

-- parts that are searched: all their rows rise, and each has some
pub record ArePartsThatRise (parts : List (List Row)) : Type 0 where
  pub rising : IsStrictlyIncreasing (map (λ (row : Row). row.word) (all_rows parts))
  pub some : All (λ part. 1 ≤ length part) parts

-- the rows of one part rise
pub part-rises : (parts : List (List Row)) (i : ℕ) (d : List Row) → ArePartsThatRise parts → i < length parts
    → IsStrictlyIncreasing (map (λ (row : Row). row.word) (get_or parts i d))
part-rises parts i d are h k within =
    let items = get_or parts i d in
    let at = length (all_rows (take i parts)) in
    let short = length-map items (λ (row : Row). row.word) in
    let long = length-map (all_rows parts) (λ (row : Row). row.word) in
    let next = long-next (λ (part : List Row). part) parts i d h in
    let front = long-front (λ (part : List Row). part) parts (i + 1) in
    let first = part-words parts i d h k (omega (arith, within, short)) in
    let second = part-words parts i d h (k + 1) (omega (arith, within, short)) in
    let step = climbs (words (all_rows parts)) are.rising (at + k) (at + (k + 1)) (omega arith) (omega (arith, within, short, long, next, front)) in
    omega (arith, first, second, step)

-- where the last row of a part is
last_place : (parts : List (List Row)) (i : ℕ) (d : List Row) → ArePartsThatRise parts → i < length parts
    → get_or (words (all_rows parts)) (length (all_rows (take (i + 1) parts)) - 1) 0 ≡ last_word (get_or parts i d)
last_place parts i d are h =
    let some = are.some i d h in
    let next = long-next (λ (part : List Row). part) parts i d h in
    let e : length (all_rows (take (i + 1) parts)) - 1 ≡ length (all_rows (take i parts)) + (length (get_or parts i d) - 1) = omega (arith, some, next) in
    ap (λ m. get_or (words (all_rows parts)) m 0) e ∙ part-words parts i d h (length (get_or parts i d) - 1) (omega (arith, some))

front-grows : (parts : List (List Row)) (i j : ℕ) → i ≤ j → length (all_rows (take i parts)) ≤ length (all_rows (take j parts))
front-grows parts i j le =
    let less = long-front (λ (part : List Row). part) (take j parts) i in
    let same = ap (λ ps. length (all_rows ps)) (take-take i j parts le) in
    omega (arith, less, same)

pub lasts-ascend : (parts : List (List Row)) → ArePartsThatRise parts → IsNonDecreasingBy (λ (part : List Row). last_word part) parts
lasts-ascend parts are i j d le h =
    let long = length-map (all_rows parts) (λ (row : Row). row.word) in
    let first = last_place parts i d are (omega (arith, le, h)) in
    let second = last_place parts j d are h in
    let grows = front-grows parts (i + 1) (j + 1) (omega (arith, le)) in
    let front = long-front (λ (part : List Row). part) parts (j + 1) in
    let some = are.some j d h in
    let next = long-next (λ (part : List Row). part) parts j d h in
    let up = ascends (words (all_rows parts)) are.rising (length (all_rows (take (i + 1) parts)) - 1) (length (all_rows (take (j + 1) parts)) - 1)
    (omega (arith, grows)) (omega (arith, front, some, next, long)) in
    omega (arith, first, second, up)

count-past : (xs ys : List Row) (n : ℕ) → ((k : ℕ) → k < length xs → get_or (words xs) k 0 ≢ n) → count_of (xs ++ ys) n ≡ count_of ys n
count-past [] ys n none = refl
count-past (row ∷ xs) ys n none =
    cond-false (eqb row.word n) row.count (count_of (xs ++ ys) n) (ne_eqb row.word n (none 0 (omega arith)))
    ∙ count-past xs ys n (λ k h. none (suc k) (omega (arith, h)))

pub count-none : (rows : List Row) (n : ℕ) → ((k : ℕ) → k < length rows → get_or (words rows) k 0 ≢ n) → count_of rows n ≡ 0
count-none rows n none = ap (λ xs. count_of xs n) (sym (append-nil rows)) ∙ count-past rows [] n none

count-front : (xs ys : List Row) (n : ℕ) → ((k : ℕ) → k < length ys → get_or (words ys) k 0 ≢ n) → count_of (xs ++ ys) n ≡ count_of xs n
count-front [] ys n none = count-none ys n none
count-front (row ∷ xs) ys n none = ap (cond (eqb row.word n) row.count) (count-front xs ys n none)

-- the first parts end below the word, and the others do not
abbrev pub IsPartedAt : ℕ → List (List Row) → ℕ → Type 0
IsPartedAt word parts i =
    IsPartitionPoint (λ (part : List Row). nat_lt (last_word part) word ≡ true) (λ (part : List Row). nat_lt (last_word part) word ≡ false) parts i

-- all rows of the parts that end below the word are below it
below-front : (parts : List (List Row)) (word i : ℕ) → ArePartsThatRise parts → IsPartedAt word parts i → i ≤ length parts
    → (k : ℕ) → k < length (all_rows (take i parts)) → get_or (words (all_rows parts)) k 0 < word
below-front parts word zero are point within k h = absurd (omega (arith, h))
below-front [] word (suc i) are point within k h = absurd (omega (arith, within))
below-front (d ∷ others) word (suc i) are point within k h =
    let parts = d ∷ others in
    let e : suc i ≡ i + 1 = omega arith in
    let last = last_place parts i d are (omega (arith, within)) in
    let under : last_word (get_or parts i d) < word =
    let ends = point.0 i d (omega arith) (omega arith) in grind (arith, nat_tests, ends) in
    let long = length-map (all_rows parts) (λ (row : Row). row.word) in
    let front = long-front (λ (part : List Row). part) parts (i + 1) in
    let same = ap (λ n. length (all_rows (take n parts))) e in
    let up = ascends (words (all_rows parts)) are.rising k (length (all_rows (take (i + 1) parts)) - 1) (omega (arith, h, same)) (omega (arith, h, same, front, long)) in
    omega (arith, last, under, up)

-- the word can have a row in the part at the place alone
pub count-in-part : (parts : List (List Row)) (word i : ℕ) (d : List Row) → ArePartsThatRise parts → IsPartedAt word parts i → i < length parts
    → count_of (get_or parts i d) word ≡ count_of (all_rows parts) word
count-in-part parts word i d are point within =
    let front = all_rows (take i parts) in
    let items = get_or parts i d in
    let back = all_rows (drop (i + 1) parts) in
    let around = joined-around parts i d within in
    let long = length-map (all_rows parts) (λ (row : Row). row.word) in
    let whole = ap length around ∙ length-append (front ++ items) back in
    let both = length-append front items in
    let next = long-next (λ (part : List Row). part) parts i d within in
    let some = are.some i d within in
    let last = last_place parts i d are within in
    let least : word ≤ last_word items = let ends = point.1 i d (omega arith) within in grind (arith, nat_tests, ends) in
    sym (ap (λ rows. count_of rows word) around
    ∙ count-front (front ++ items) back word (λ k h same.
    let at = ap (λ rows. get_or (words rows) (length (front ++ items) + k) 0) around ∙ behind (front ++ items) back k in
    let up = climbs (words (all_rows parts)) are.rising (length (all_rows (take (i + 1) parts)) - 1) (length (front ++ items) + k)
    (omega (arith, both, next, some)) (omega (arith, h, whole, long)) in
    omega (arith, at, up, last, least, same))
    ∙ count-past front items word (λ k h same.
    let at = ap (λ rows. get_or (words rows) k 0) (parts-split (λ (part : List Row). part) parts i) ∙ before front (all_rows (drop i parts)) k h in
    let low = below-front parts word i are point (omega (arith, within)) k h in
    omega (arith, at, low, same)))

-- or it has none
pub count-in-none : (parts : List (List Row)) (word i : ℕ) → ArePartsThatRise parts → IsPartedAt word parts i → i ≤ length parts
    → length parts ≤ i → 0 ≡ count_of (all_rows parts) word
count-in-none parts word i are point within over =
    let all : all_rows (take i parts) ≡ all_rows parts = ap all_rows (take_all i parts over) in
    sym (count-none (all_rows parts) word (λ k h same.
    let low = below-front parts word i are point within k (let e = ap length all in omega (arith, e, h)) in omega (arith, low, same)))

pub parted-at : (parts : List (List Row)) (word : ℕ) → ArePartsThatRise parts → IsPartitionedBy (λ (part : List Row). nat_lt (last_word part) word) parts
parted-at parts word are = IsPartitionedBy-ltb (λ (part : List Row). last_word part) parts word (lasts-ascend parts are)
