-- Rows in words: what is read of them is what was packed.
use Rattle.std.proofs.Common.{◌≡◌, ◌≢◌, ◌∙◌, ℕ, zero, suc, ◌+◌, ◌-◌, ◌*◌, ◌/◌, ◌%◌, ◌^◌, ◌<◌, ◌≤◌, ◌&&◌, min, max}
use Rattle.std.proofs.Common.{Bool, true, false, cond, List, [], ◌∷◌, map, length, get_or, drop}
use Rattle.std.proofs.Common.{All, Result, Ok, Err, bit_and, refl, sym, ap, subst, arith, ⊎_elim, eq-eqb, ne_eqb}
use Rattle.std.proofs.Common.{mod-eq_of_lt, pow-add, pow-suc, pow_pos}
use Rattle.std.specs.Prelude.{MatchResult}
use Rattle.std.specs.List.Sorted.{IsStrictlyIncreasing, IsSearchInRange, IsBinarySearchResult, IsNonDecreasingBy}
use Rattle.std.specs.Ordering.{nat_cmp, ordering_index}
use Rattle.std.proofs.lemmas.Bool.{cases_Bool, cases_eq, cases_lt, cond-true, cond-false, le-leb}
use Rattle.std.proofs.lemmas.Bool.Decides.{nat_tests}
use Rattle.std.proofs.lemmas.Cmp.{ranked}
use Rattle.std.proofs.lemmas.List.{length-map, get_or-map, get_or_read}
use Rattle.std.proofs.lemmas.List.Elements.{All-head, All-tail}
use Rattle.std.proofs.lemmas.List.Sorted.{IsNonDecreasingBy-from_default}
use Rattle.std.proofs.lemmas.Nat.{and_mask, one_shl, div-mul-add, mod-mul-add, mul-add-lt, shr_below}
use Rattle.kc_tally.specs.declared.row.Row.{Row}
use Rattle.kc_tally.specs.Tally.{row_of, count_of}
use Rattle.kc_tally.specs.Searching.{last_word}
use Rattle.kc_tally.specs.Packing.{LayoutSeen, is_large, packed_row, large_rows, word_in, is_apart, first_count, unpacked}
use Rattle.kc_tally.specs.Packing.{rows_of, ArePacked}
use Rattle.kc_tally.proofs.Tallies.{RisesFrom, rises-from, count_of-here, count_of-past}
use Rattle.kc_tally.proofs.Searches.{words, no_row, word_at, rises, ascends, count_at, count-none}

-- ---- bits of a word

pub masked_low : (number low : ℕ) → low < 64 → bit_and number (1 * 2 ^ low % 2 ^ 64 - 1) ≡ number % 2 ^ low
masked_low number low few = ap (λ m. bit_and number (m - 1)) (one_shl low 64 few) ∙ and_mask number low

-- a number above the low bits, and these
high_fits : (high bits low : ℕ) → low < 64 → high < 2 ^ (64 - low) → bits < 2 ^ low → high * 2 ^ low + bits < 2 ^ 64
high_fits high bits low few narrow below =
    let split : low + (64 - low) ≡ 64 = omega arith in
    subst (λ n. high * 2 ^ low + bits < n) (sym (pow-add 2 low (64 - low)) ∙ ap (λ n. 2 ^ n) split)
    (mul-add-lt high (2 ^ low) bits (2 ^ (64 - low)) narrow below)

pub shifted : (gap bits low : ℕ) → low < 64 → gap < 2 ^ (64 - low) → bits < 2 ^ low
    → (gap * 2 ^ low % 2 ^ 64 + bits ≡ gap * 2 ^ low + bits) × (gap * 2 ^ low % 2 ^ 64 + bits < 2 ^ 64)
shifted gap bits low few narrow below =
    let fits = high_fits gap bits low few narrow below in
    let whole : gap * 2 ^ low < 2 ^ 64 = omega (arith, fits) in
    let same : gap * 2 ^ low % 2 ^ 64 ≡ gap * 2 ^ low = mod-eq_of_lt whole in
    (ap (λ n. n + bits) same, omega (arith, same, fits))

pub word_fits : (least low packed : ℕ) → low < 64 → least + 2 ^ (64 - low) ≤ 2 ^ 64 → packed < 2 ^ 64
    → least + packed / 2 ^ low < 2 ^ 64
word_fits least low packed few room small =
    let split : 64 ≡ 64 - low + low = omega arith in
    let above : packed / 2 ^ low < 2 ^ (64 - low) =
    shr_below packed (64 - low) low (subst (λ n. packed < 2 ^ n) split small) in
    omega (arith, above, room)

-- so many bits are left by a span of words with this highest bit
pub record IsSpan (least greatest highest : ℕ) : Type 0 where
  pub order : least ≤ greatest
  pub small : greatest < 2 ^ 62
  pub least_power : 2 ^ highest ≤ max (greatest - least) 1
  pub next_power : max (greatest - least) 1 < 2 * 2 ^ highest
  pub bound : highest < 64

module _ (least greatest highest : ℕ) (span : IsSpan least greatest highest) where
  next : 2 ^ (64 - (63 - highest)) ≡ 2 ^ highest * 2
  next =
      let bound : highest < 64 = span.bound in
      let e : 64 - (63 - highest) ≡ suc highest = omega arith in
      ap (λ n. 2 ^ n) e ∙ pow-suc 2 highest

  pub span_room : greatest < least + 2 ^ (64 - (63 - highest))
  span_room = omega (arith, next, span.order, span.next_power)

  pub span_fits : least + 2 ^ (64 - (63 - highest)) ≤ 2 ^ 64
  span_fits = omega (arith, next, span.order, span.small, span.least_power)

  pub span_most : 2 ^ (63 - (63 - highest)) ≤ max (greatest - least) 1
  span_most =
      let bound : highest < 64 = span.bound in
      let e : 63 - (63 - highest) ≡ highest = omega arith in
      subst (λ n. 2 ^ n ≤ max (greatest - least) 1) (sym e) span.least_power

-- ---- one row

module _ (l : LayoutSeen) where
  abbrev pub small : Row → ℕ
  small row = cond (is_large l row) 0 row.count

  small-below : (row : Row) → small row < 2 ^ l.low
  small-below row =
      let some : 0 < 2 ^ l.low = pow_pos l.low in
      ⊎_elim
      (λ e. let is = cond-true (is_large l row) 0 row.count e in omega (arith, is, some))
      (λ e. let is = cond-false (is_large l row) 0 row.count e in
      let less : row.count < 2 ^ l.low = grind (arith, nat_tests, e) in
      omega (arith, is, less))
      (cases_Bool (is_large l row))

  pub low-of : (row : Row) → packed_row l row % 2 ^ l.low ≡ small row
  low-of row = mod-mul-add (row.word - l.least) (2 ^ l.low) (small row) (small-below row)

  pub word-of : (row : Row) → l.least ≤ row.word → word_in l (packed_row l row) ≡ row.word
  word-of row least =
      let gap : packed_row l row / 2 ^ l.low ≡ row.word - l.least =
      div-mul-add (row.word - l.least) (2 ^ l.low) (small row) (small-below row) in
      omega (arith, gap, least)

  pub rows_of-apart : (packed : ℕ) (more : List ℕ) (large : List Row) → is_apart l packed ≡ true
      → rows_of l (packed ∷ more) large ≡ row_of (word_in l packed) (first_count large) ∷ rows_of l more (drop 1 large)
  rows_of-apart packed more large e =
      ap (λ b. row_of (word_in l packed) (cond b (first_count large) (packed % 2 ^ l.low)) ∷ rows_of l more (cond b (drop 1 large) large)) e

  pub rows_of-here : (packed : ℕ) (more : List ℕ) (large : List Row) → is_apart l packed ≡ false
      → rows_of l (packed ∷ more) large ≡ row_of (word_in l packed) (packed % 2 ^ l.low) ∷ rows_of l more large
  rows_of-here packed more large e =
      ap (λ b. row_of (word_in l packed) (cond b (first_count large) (packed % 2 ^ l.low)) ∷ rows_of l more (cond b (drop 1 large) large)) e

  unpacked-more : (row : Row) (rows : List Row) (packed : List ℕ) (large : List Row) → l.least ≤ row.word → 1 ≤ row.count
      → rows_of l packed large ≡ rows
      → rows_of l (packed_row l row ∷ packed) (cond (is_large l row) (row ∷ large) large) ≡ row ∷ rows
  unpacked-more row rows packed large least some rest =
      let p = packed_row l row in
      ⊎_elim
      (λ e. let none : p % 2 ^ l.low ≡ 0 = low-of row ∙ cond-true (is_large l row) 0 row.count e in
      ap (rows_of l (p ∷ packed)) (cond-true (is_large l row) (row ∷ large) large e)
      ∙ rows_of-apart p packed (row ∷ large) (eq-eqb (p % 2 ^ l.low) 0 none)
      ∙ ap (λ w. row_of w row.count ∷ rows_of l packed large) (word-of row least)
      ∙ ap (λ rs. row ∷ rs) rest)
      (λ e. let is : p % 2 ^ l.low ≡ row.count = low-of row ∙ cond-false (is_large l row) 0 row.count e in
      ap (rows_of l (p ∷ packed)) (cond-false (is_large l row) (row ∷ large) large e)
      ∙ rows_of-here p packed large (ne_eqb (p % 2 ^ l.low) 0 (λ none. omega (arith, none, is, some)))
      ∙ ap (λ w. row_of w (p % 2 ^ l.low) ∷ rows_of l packed large) (word-of row least)
      ∙ ap (λ n. row_of row.word n ∷ rows_of l packed large) is
      ∙ ap (λ rs. row ∷ rs) rest)
      (cases_Bool (is_large l row))

  -- ---- all rows

  -- what is read is what was packed
  pub unpacked-packed : (rows : List Row) → All (λ row. l.least ≤ row.word) rows → All (λ row. 1 ≤ row.count) rows
      → rows_of l (map (packed_row l) rows) (large_rows l rows) ≡ rows
  unpacked-packed [] least present = refl
  unpacked-packed (row ∷ rows) least present =
      unpacked-more row rows (map (packed_row l) rows) (large_rows l rows)
      (All-head (λ (row : Row). l.least ≤ row.word) row rows least) (All-head (λ (row : Row). 1 ≤ row.count) row rows present)
      (unpacked-packed rows (All-tail (λ (row : Row). l.least ≤ row.word) row rows least)
      (All-tail (λ (row : Row). 1 ≤ row.count) row rows present))

  pub all-packed : (rows : List Row) (packed : List ℕ) (large : List Row) → All (λ row. l.least ≤ row.word) rows
      → All (λ row. 1 ≤ row.count) rows → packed ≡ map (packed_row l) rows → large ≡ large_rows l rows
      → rows_of l packed large ≡ rows
  all-packed rows packed large least present is apart =
      ap (λ ps. rows_of l ps large) is ∙ ap (rows_of l (map (packed_row l) rows)) apart ∙ unpacked-packed rows least present

  pub are-packed : (rows : List Row) (packed : List ℕ) (large : List Row) → All (λ row. l.least ≤ row.word) rows
      → All (λ row. 1 ≤ row.count) rows → packed ≡ map (packed_row l) rows → large ≡ large_rows l rows
      → ArePacked l packed large
  are-packed rows packed large least present is apart =
      let back : rows ≡ rows_of l packed large = sym (all-packed rows packed large least present is apart) in
      record {
        words = is ∙ ap (map (packed_row l)) back;
        apart = apart ∙ ap (large_rows l) back;
        present = subst (All (λ (row : Row). 1 ≤ row.count)) back present;
      }

  pub words-rows_of : (packed : List ℕ) (large : List Row) → words (rows_of l packed large) ≡ map (word_in l) packed
  words-rows_of [] large = refl
  words-rows_of (p ∷ packed) large =
      ap (λ ws. word_in l p ∷ ws) (words-rows_of packed (cond (is_apart l p) (drop 1 large) large))

  pub length-rows_of : (packed : List ℕ) (large : List Row) → length (rows_of l packed large) ≡ length packed
  length-rows_of [] large = refl
  length-rows_of (p ∷ packed) large = ap suc (length-rows_of packed (cond (is_apart l p) (drop 1 large) large))

  pub word-there : (packed : List ℕ) (large : List Row) (i : ℕ) → i < length packed
      → get_or (words (rows_of l packed large)) i 0 ≡ word_in l (get_or packed i 0)
  word-there packed large i h =
      ap (λ ws. get_or ws i 0) (words-rows_of packed large) ∙ get_or-map (word_in l) packed i 0 0 h

  pub last-packed : (packed : List ℕ) (large : List Row) (p : ℕ) → 0 < length packed → p ≡ get_or packed (length packed - 1) p
      → word_in l p ≡ last_word (rows_of l packed large)
  last-packed packed large p some read =
      let h : length packed - 1 < length packed = omega (arith, some) in
      sym (ap (λ n. get_or (words (rows_of l packed large)) (n - 1) 0) (length-rows_of packed large)
      ∙ word-there packed large (length packed - 1) h
      ∙ ap (word_in l) (sym (get_or_read packed (length packed - 1) p h read 0)))

  -- ---- the first row

  pub ended : (packed : List ℕ) (large : List Row) → length packed ≡ 0 → rows_of l packed large ≡ []
  ended [] large none = refl
  ended (p ∷ packed) large none = absurd (omega (arith, none))

  pub begun : (packed : List ℕ) (large : List Row) (p : ℕ) (row : Row) (rest : List ℕ) → packed ≡ p ∷ rest
      → row ≡ unpacked l p large → rows_of l packed large ≡ row ∷ drop 1 (rows_of l packed large)
  begun packed large p row rest is row_is =
      let whole : rows_of l packed large ≡ rows_of l (p ∷ rest) large = ap (λ ps. rows_of l ps large) is in
      whole ∙ ap (λ r. r ∷ drop 1 (rows_of l (p ∷ rest) large)) (sym row_is) ∙ ap (λ rows. row ∷ drop 1 rows) (sym whole)

  pub taken-on : (packed : List ℕ) (large : List Row) (p : ℕ) (rest : List ℕ) (row : Row) (left : List Row) → packed ≡ p ∷ rest
      → row ≡ unpacked l p large → left ≡ cond (is_apart l p) (drop 1 large) large
      → rows_of l packed large ≡ row ∷ rows_of l rest left
  taken-on packed large p rest row left is row_is left_is =
      ap (λ ps. rows_of l ps large) is ∙ ap (λ r. r ∷ rows_of l rest (cond (is_apart l p) (drop 1 large) large)) (sym row_is)
      ∙ ap (λ rs. row ∷ rows_of l rest rs) (sym left_is)

  passed-on : (p : ℕ) (packed : List ℕ) (large : List Row) (passed : Bool)
      → rows_of l (cond passed packed (p ∷ packed)) (cond (passed && is_apart l p) (drop 1 large) large)
      ≡ cond passed (drop 1 (rows_of l (p ∷ packed) large)) (rows_of l (p ∷ packed) large)
  passed-on p packed large true = refl
  passed-on p packed large false = refl

  -- the first row is left out, or stays
  pub passed-by : (packed : List ℕ) (large : List Row) (p : ℕ) (rest : List ℕ) (passed apart : Bool) (left : List Row) (ps : List ℕ)
      → packed ≡ p ∷ rest → apart ≡ is_apart l p → left ≡ cond (passed && apart) (drop 1 large) large
      → ps ≡ cond passed (drop 1 packed) packed
      → rows_of l ps left ≡ cond passed (drop 1 (rows_of l packed large)) (rows_of l packed large)
  passed-by packed large p rest passed apart left ps is apart_is left_is ps_is =
      ap (λ qs. rows_of l qs left) (ps_is ∙ ap (λ qs. cond passed (drop 1 qs) qs) is)
      ∙ ap (rows_of l (cond passed rest (p ∷ rest))) (left_is ∙ ap (λ b. cond (passed && b) (drop 1 large) large) apart_is)
      ∙ passed-on p rest large passed
      ∙ ap (λ qs. cond passed (drop 1 (rows_of l qs large)) (rows_of l qs large)) (sym is)

  -- ---- the count of a word

  -- a large count is that of the word's row among the large ones
  pub count-apart : (rows : List Row) (n : ℕ) → 2 ^ l.low ≤ count_of rows n → count_of (large_rows l rows) n ≡ count_of rows n
  count-apart [] n large = refl
  count-apart (row ∷ rows) n large =
      ⊎_elim
      (λ (e : row.word ≡ n). let here = count_of-here row rows n e in
      let is : is_large l row ≡ true = le-leb (2 ^ l.low) row.count (omega (arith, here, large)) in
      ap (λ rs. count_of rs n) (cond-true (is_large l row) (row ∷ large_rows l rows) (large_rows l rows) is)
      ∙ count_of-here row (large_rows l rows) n e ∙ sym here)
      (λ (ne : row.word ≡ n → ⊥). let past = count_of-past row rows n ne in
      let rest = count-apart rows n (omega (arith, past, large)) in
      ⊎_elim
      (λ is. ap (λ rs. count_of rs n) (cond-true (is_large l row) (row ∷ large_rows l rows) (large_rows l rows) is)
      ∙ count_of-past row (large_rows l rows) n ne ∙ rest ∙ sym past)
      (λ is. ap (λ rs. count_of rs n) (cond-false (is_large l row) (row ∷ large_rows l rows) (large_rows l rows) is)
      ∙ rest ∙ sym past)
      (cases_Bool (is_large l row)))
      (cases_eq row.word n)

  -- ascending rows still rise if some are left out
  rises-lower : (low high : ℕ) (rows : List Row) → low ≤ high → RisesFrom high rows → RisesFrom low rows
  unfolding RisesFrom
  rises-lower low high [] le up = tt
  rises-lower low high (row ∷ rows) le up = (let least = up.0 in omega (arith, le, least), up.1)

  rises-apart : (low : ℕ) (rows : List Row) → RisesFrom low rows → RisesFrom low (large_rows l rows)
  unfolding RisesFrom
  rises-apart low [] up = tt
  rises-apart low (row ∷ rows) up =
      let rest = rises-apart (suc row.word) rows up.1 in
      ⊎_elim
      (λ is. subst (RisesFrom low) (sym (cond-true (is_large l row) (row ∷ large_rows l rows) (large_rows l rows) is))
      (up.0, rest))
      (λ is. subst (RisesFrom low) (sym (cond-false (is_large l row) (row ∷ large_rows l rows) (large_rows l rows) is))
      (rises-lower low (suc row.word) (large_rows l rows) (let least = up.0 in omega (arith, least)) rest))
      (cases_Bool (is_large l row))

  increasing : (low : ℕ) (rows : List Row) → RisesFrom low rows → IsStrictlyIncreasing (words rows)
  unfolding RisesFrom
  increasing low [] up k h = absurd (omega (arith, h))
  increasing low (row ∷ []) up k h = absurd (omega (arith, h))
  increasing low (row ∷ other ∷ rows) up zero h = up.1.0
  increasing low (row ∷ other ∷ rows) up (suc k) h =
      let e : suc k + 1 ≡ suc (k + 1) = omega arith in
      let rest = increasing (suc row.word) (other ∷ rows) up.1 k (omega (arith, h)) in
      subst (λ m. get_or (words (row ∷ other ∷ rows)) (suc k) 0 < get_or (words (row ∷ other ∷ rows)) m 0) (sym e) rest

  pub rising-apart : (rows : List Row) → IsStrictlyIncreasing (words rows) → IsStrictlyIncreasing (words (large_rows l rows))
  rising-apart rows rising =
      increasing 0 (large_rows l rows) (rises-apart 0 rows (rises-from 0 rows rising (λ _. omega arith)))

  -- a packed row that was found for a word
  pub record IsFound (packed : List ℕ) (large : List Row) (i word p : ℕ) : Type 0 where
    pub are : ArePacked l packed large
    pub rising : IsStrictlyIncreasing (words (rows_of l packed large))
    pub within : i < length packed
    pub read : p ≡ get_or packed i 0
    pub here : get_or (words (rows_of l packed large)) i 0 ≡ word

  module _ (packed : List ℕ) (large : List Row) (i word p : ℕ) (found : IsFound packed large i word p) where
    abbrev rows : List Row
    rows = rows_of l packed large

    abbrev row : Row
    row = get_or rows i no_row

    inside : i < length rows
    inside = let h : i < length packed = found.within in omega (arith, length-rows_of packed large)

    row-word : row.word ≡ word
    row-word = sym (word_at rows i inside) ∙ found.here

    counted : count_of rows word ≡ row.count
    counted = count_at rows word i no_row inside row-word (λ j h same.
        let less = rises rows found.rising j i h inside in omega (arith, less, same, row-word))

    low-is : p % 2 ^ l.low ≡ small row
    low-is =
        ap (λ n. n % 2 ^ l.low) (found.read ∙ ap (λ ps. get_or ps i 0) found.are.words
        ∙ get_or-map (packed_row l) rows i no_row 0 inside)
        ∙ low-of row

    some : 1 ≤ row.count
    some = found.are.present i no_row inside

    pub found-here : p % 2 ^ l.low ≢ 0 → p % 2 ^ l.low ≡ count_of rows word
    found-here ne =
        ⊎_elim
        (λ e. absurd (ne (low-is ∙ cond-true (is_large l row) 0 row.count e)))
        (λ e. low-is ∙ cond-false (is_large l row) 0 row.count e ∙ sym counted)
        (cases_Bool (is_large l row))

    pub found-apart : p % 2 ^ l.low ≡ 0 → count_of large word ≡ count_of rows word
    found-apart none =
        ⊎_elim
        (λ e. let most : 2 ^ l.low ≤ row.count = grind (arith, nat_tests, e) in
        ap (λ rs. count_of rs word) found.are.apart ∙ count-apart rows word (omega (arith, most, counted)))
        (λ e. let is = low-is ∙ cond-false (is_large l row) 0 row.count e in absurd (omega (arith, is, none, some)))
        (cases_Bool (is_large l row))

    pub rising-large : IsStrictlyIncreasing (words large)
    rising-large = subst (λ rs. IsStrictlyIncreasing (words rs)) (sym found.are.apart) (rising-apart rows found.rising)

  -- ---- the search

  -- the words of packed rows do not fall against the one that is searched
  comparisons : (packed : List ℕ) (large : List Row) (word : ℕ) → IsStrictlyIncreasing (words (rows_of l packed large))
      → IsNonDecreasingBy (λ p. ordering_index (nat_cmp (word_in l p) word)) packed
  comparisons packed large word rising =
      IsNonDecreasingBy-from_default (λ p. ordering_index (nat_cmp (word_in l p) word)) packed 0 (λ i j le h.
      let long = length-rows_of packed large in
      let wide = length-map (rows_of l packed large) (λ (row : Row). row.word) in
      let first = word-there packed large i (omega (arith, le, h)) in
      let second = word-there packed large j h in
      let step = ascends (words (rows_of l packed large)) rising i j le (omega (arith, h, long, wide)) in
      let up : word_in l (get_or packed i 0) ≤ word_in l (get_or packed j 0) = omega (arith, first, second, step) in
      grind (arith, nat_tests))

  pub searched-packed : (packed : List ℕ) (large : List Row) (word : ℕ) (r : Result ℕ ℕ)
      → IsStrictlyIncreasing (words (rows_of l packed large)) → IsSearchInRange r (length packed)
      → IsBinarySearchResult (λ p. nat_cmp (word_in l p) word) packed r
      → MatchResult r (λ i. get_or (words (rows_of l packed large)) i 0 ≡ word) (λ i. count_of (rows_of l packed large) word ≡ 0)
  searched-packed packed large word (Ok i) rising within equal =
      word-there packed large i within ∙ ranked _ word _ (sym (equal 0))
  searched-packed packed large word (Err i) rising within parted =
      let split = parted (comparisons packed large word rising) in
      count-none (rows_of l packed large) word (λ j h same.
      let inside : j < length packed = omega (arith, h, length-rows_of packed large) in
      let there = word-there packed large j inside in
      ⊎_elim
      (λ (b : j < i). let below : word_in l (get_or packed j 0) < word =
      ranked _ word _ (sym (split.0 j 0 (omega arith) b)) in omega (arith, below, same, there))
      (λ (b : i ≤ j). let above : word < word_in l (get_or packed j 0) =
      ranked _ word _ (sym (split.1 j 0 b inside)) in omega (arith, above, same, there))
      (cases_lt j i))

-- ---- slices

-- how many items are left out
pub without : {X : Type 0} (asked : Bool) (xs : List X) (n : ℕ) → n ≡ min (cond asked 1 0) (length xs)
    → drop n xs ≡ cond asked (drop 1 xs) xs
without true [] n is = let none : n ≡ 0 = omega (arith, is) in ap (λ m. drop m []) none
without true (x ∷ xs) n is = let one : n ≡ 1 = omega (arith, is) in ap (λ m. drop m (x ∷ xs)) one
without false xs n is = let none : n ≡ 0 = omega (arith, is) in ap (λ m. drop m xs) none
