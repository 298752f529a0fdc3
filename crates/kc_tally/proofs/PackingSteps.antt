-- Rows that are packed one by one, and parts of them.
use Rattle.std.proofs.Common.{◌≡◌, ◌∙◌, ℕ, ◌+◌, ◌-◌, ◌*◌, ◌^◌, ◌<◌, ◌≤◌, Bool, true, false, cond, List, [], ◌∷◌, ◌++◌}
use Rattle.std.proofs.Common.{map, length, get_or, take, drop, min, max, All, refl, sym, ap, subst, arith, pow_mono, ⊎_elim}
use Rattle.std.specs.List.{flat_map}
use Rattle.std.proofs.lemmas.Bool.{cases_Bool, cases_lt, cond-true, cond-false}
use Rattle.std.proofs.lemmas.List.{length-append, length-drop, map_more, take-append-drop}
use Rattle.std.proofs.lemmas.List.{take_all, get_or_default}
use Rattle.std.proofs.lemmas.List.{append-nil, append_assoc, reverse-append}
use Rattle.std.proofs.lemmas.List.Elements.{All-nil, All-more, All-weaker, All-take, filter_more, filter-append}
use Rattle.std.proofs.lemmas.List.Filters.{length-filter_more}
use Rattle.kc_kmer.proofs.Letters.{pow-four}
use Rattle.kc_tally.specs.declared.row.Row.{Row}
use Rattle.kc_tally.specs.Tally.{row_of}
use Rattle.kc_tally.specs.Packing.{LayoutSeen, is_large, packed_row, large_rows, IsTight, rows_from_last}

-- ---- the least and the greatest word

-- one of so many rows has this word
abbrev IsThere : List Row → ℕ → ℕ → Type 0
IsThere rows i word = (k : ℕ) × (k < i) × ((get_or rows k (row_of 0 0)).word ≡ word)

-- so many rows were looked at, with words in this range
pub record IsWithin (rows : List Row) (i least greatest : ℕ) : Type 0 where
  pub lower : All (λ row. least ≤ row.word) (take i rows)
  pub upper : All (λ row. row.word ≤ greatest) (take i rows)
  pub small : greatest < 2 ^ 62
  pub first : 1 ≤ i → IsThere rows i least
  pub last : 1 ≤ i → IsThere rows i greatest
  pub none : i ≡ 0 → (least ≡ 2 ^ 62 - 1) × (greatest ≡ 0)

pub within-none : (rows : List Row) → IsWithin rows 0 (2 ^ 62 - 1) 0
within-none rows = record {
  lower = All-nil _;
  upper = All-nil _;
  small = omega arith;
  first = λ some. absurd (omega (arith, some));
  last = λ some. absurd (omega (arith, some));
  none = λ _. (refl, refl);
}

pub within-more : (rows : List Row) (i : ℕ) (row : Row) {least greatest lesser greater : ℕ} → i < length rows
    → row ≡ get_or rows i row → All (λ row. row.word < 2 ^ 62) rows → IsWithin rows i least greatest
    → lesser ≡ min row.word least → greater ≡ max row.word greatest → IsWithin rows (i + 1) lesser greater
within-more rows i row {least} {greatest} {lesser} {greater} h read below within is_least is_greatest =
    let word : row.word ≡ (get_or rows i row).word = ap (λ (r : Row). r.word) read in
    let value = ap (λ (r : Row). r.word) (get_or_default rows i (row_of 0 0) row h) in
    let here = below i row h in
    record {
      lower = All-more (λ (r : Row). lesser ≤ r.word) rows i row h
          (All-weaker (λ (r : Row). least ≤ r.word) (λ (r : Row). lesser ≤ r.word) (λ r le. omega (arith, le, is_least)) (take i rows) within.lower)
          (omega (arith, word, is_least));
      upper = All-more (λ (r : Row). r.word ≤ greater) rows i row h
          (All-weaker (λ (r : Row). r.word ≤ greatest) (λ (r : Row). r.word ≤ greater) (λ r le. omega (arith, le, is_greatest)) (take i rows) within.upper)
          (omega (arith, word, is_greatest));
      small = let small = within.small in omega (arith, word, here, small, is_greatest);
      first = λ _. ⊎_elim
          (λ (more : least < row.word).
          let some : 1 ≤ i = ⊎_elim (λ (l : 0 < i). omega (arith, l)) (λ (l : i ≤ 0).
          let none = (within.none (omega (arith, l))).0 in absurd (omega (arith, none, more, here, word))) (cases_lt 0 i) in
          let at = within.first some in
          let before = at.1 in
          (at.0, omega (arith, before), let is = at.2 in omega (arith, is, more, is_least)))
          (λ (le : row.word ≤ least). (i, omega arith, omega (arith, value, word, le, is_least)))
          (cases_lt least row.word);
      last = λ _. ⊎_elim
          (λ (less : row.word < greatest).
          let some : 1 ≤ i = ⊎_elim (λ (l : 0 < i). omega (arith, l)) (λ (l : i ≤ 0).
          let none = (within.none (omega (arith, l))).1 in absurd (omega (arith, none, less))) (cases_lt 0 i) in
          let at = within.last some in
          let before = at.1 in
          (at.0, omega (arith, before), let is = at.2 in omega (arith, is, less, is_greatest)))
          (λ (ge : greatest ≤ row.word). (i, omega arith, omega (arith, value, word, ge, is_greatest)))
          (cases_lt row.word greatest);
      none = λ e. absurd (omega (arith, e));
    }

-- the layout between the least and the greatest word is tight
pub within-tight : (rows : List Row) (i least greatest : ℕ) (layout : LayoutSeen) → 1 ≤ length rows → i ≤ length rows → length rows ≤ i
    → IsWithin rows i least greatest → layout.least ≡ min least greatest
    → 2 ^ (63 - layout.low) ≤ max (greatest - min least greatest) 1 → IsTight rows layout
within-tight rows i least greatest layout some fits all within is high =
    let ones : 1 ≤ i = omega (arith, some, all) in
    let first = within.first ones in
    let last = within.last ones in
    let before = first.1 in
    let behind = last.1 in
    let lower = subst (All (λ (row : Row). least ≤ row.word)) (take_all i rows all) within.lower in
    let h : last.0 < length rows = omega (arith, behind, fits) in
    let le = lower last.0 (row_of 0 0) h in
    let least_is = first.2 in
    let greatest_is = last.2 in
    let g : first.0 < length rows = omega (arith, before, fits) in
    let order : least ≤ greatest = omega (arith, le, greatest_is) in
    record {
      least = (
        first.0,
        get_or rows first.0 (row_of 0 0),
        g,
        get_or_default rows first.0 (get_or rows first.0 (row_of 0 0)) (row_of 0 0) g,
        omega (arith, least_is, is, order),
      );
      highest = (
        last.0,
        get_or rows last.0 (row_of 0 0),
        h,
        get_or_default rows last.0 (get_or rows last.0 (row_of 0 0)) (row_of 0 0) h,
        omega (arith, greatest_is, is, order, high),
      );
    }

pub within-all : (rows : List Row) (i least greatest : ℕ) → length rows ≤ i → IsWithin rows i least greatest
    → All (λ row. least ≤ row.word) rows × All (λ row. row.word ≤ greatest) rows
within-all rows i least greatest all within = (
  subst (All (λ (row : Row). least ≤ row.word)) (take_all i rows all) within.lower,
  subst (All (λ (row : Row). row.word ≤ greatest)) (take_all i rows all) within.upper,
)

-- ---- rows of a layout

module _ (l : LayoutSeen) where
  pub packed-more : (rows : List Row) (i : ℕ) (row : Row) (packed : List ℕ) (p : ℕ) → i < length rows → row ≡ get_or rows i row
      → packed ≡ map (packed_row l) (take i rows) → p ≡ packed_row l row
      → packed ++ p ∷ [] ≡ map (packed_row l) (take (i + 1) rows)
  packed-more rows i row packed p h read is packed_is =
      ap (λ ps. ps ++ p ∷ []) is
      ∙ ap (λ q. map (packed_row l) (take i rows) ++ q ∷ []) (packed_is ∙ ap (packed_row l) read)
      ∙ sym (map_more (packed_row l) rows i row h)

  large-more : (rows : List Row) (i : ℕ) (row : Row) (b : Bool) → i < length rows → row ≡ get_or rows i row
      → is_large l row ≡ b → large_rows l (take (i + 1) rows) ≡ large_rows l (take i rows) ++ cond b (row ∷ []) []
  large-more rows i row b h read is =
      filter_more (is_large l) rows i row h
      ∙ ap (λ r. large_rows l (take i rows) ++ cond (is_large l r) (r ∷ []) []) (sym read)
      ∙ ap (λ c. large_rows l (take i rows) ++ cond c (row ∷ []) []) is

  pub large-next : (rows : List Row) (i : ℕ) (row : Row) → i < length rows → row ≡ get_or rows i row
      → is_large l row ≡ true → large_rows l (take (i + 1) rows) ≡ large_rows l (take i rows) ++ row ∷ []
  large-next rows i row h read is = large-more rows i row true h read is

  pub large-same : (rows : List Row) (i : ℕ) (row : Row) → i < length rows → row ≡ get_or rows i row
      → is_large l row ≡ false → large_rows l (take (i + 1) rows) ≡ large_rows l (take i rows)
  large-same rows i row h read is = large-more rows i row false h read is ∙ append-nil (large_rows l (take i rows))

  large-front : (rows : List Row) (i : ℕ) → length (large_rows l (take i rows)) ≤ length (large_rows l rows)
  large-front rows i =
      let whole : large_rows l rows ≡ large_rows l (take i rows) ++ large_rows l (drop i rows) =
      ap (large_rows l) (sym (take-append-drop i rows)) ∙ filter-append (is_large l) (take i rows) (drop i rows) in
      let long = ap length whole ∙ length-append (large_rows l (take i rows)) (large_rows l (drop i rows)) in
      omega (arith, long)

  pub large-room : (rows : List Row) (i : ℕ) (row : Row) → i < length rows → row ≡ get_or rows i row
      → is_large l row ≡ true → length (large_rows l (take i rows)) < length (large_rows l rows)
  large-room rows i row h read is =
      let next = ap length (large-next rows i row h read is) ∙ length-append (large_rows l (take i rows)) (row ∷ []) in
      let front = large-front rows (i + 1) in
      omega (arith, next, front)

  pub large-long : (rows : List Row) → length (large_rows l rows) ≤ length rows
  large-long [] = omega arith
  large-long (row ∷ rows) =
      let rest = large-long rows in
      ⊎_elim
      (λ e. let is = ap length (cond-true (is_large l row) (row ∷ large_rows l rows) (large_rows l rows) e) in omega (arith, is, rest))
      (λ e. let is = ap length (cond-false (is_large l row) (row ∷ large_rows l rows) (large_rows l rows) e) in omega (arith, is, rest))
      (cases_Bool (is_large l row))

  -- there are no more large rows than rows
  pub large-few : (rows : List Row) (i : ℕ) → length (large_rows l (take i rows)) ≤ length rows
  large-few rows i = let front = large-front rows i in let all = large-long rows in omega (arith, front, all)

  pub large-counted : (rows : List Row) (i : ℕ) (row : Row) → i < length rows → row ≡ get_or rows i row
      → length (large_rows l (take (i + 1) rows)) ≡ length (large_rows l (take i rows)) + cond (is_large l row) 1 0
  large-counted rows i row h read =
      length-filter_more (is_large l) rows i row h
      ∙ ap (λ r. length (large_rows l (take i rows)) + cond (is_large l r) 1 0) (sym read)

-- ---- parts

-- one more part is first
pub from_last-push : (parts : List (List Row)) (part : List Row) → rows_from_last (parts ++ part ∷ []) ≡ part ++ rows_from_last parts
from_last-push parts part = ap (flat_map (λ (p : List Row). p)) (reverse-append parts (part ∷ []))

-- the rows from a place on, as a slice has them
pub rest : (rows : List Row) (at : ℕ) → take (length rows - at) (drop at rows) ≡ drop at rows
rest rows at = let long = length-drop at rows in take_all (length rows - at) (drop at rows) (omega (arith, long))

-- the rows from a place on are packed before the others
pub record IsPackedFrom (rows before after : List Row) (packed : List (List Row)) : Type 0 where
  pub same : before ++ rows_from_last packed ≡ rows ++ after
  pub words : All (λ row. row.word < 2 ^ 62) before
  pub present : All (λ row. 1 ≤ row.count) before

pub packed-none : (rows : List Row) → All (λ row. row.word < 2 ^ 62) rows → All (λ row. 1 ≤ row.count) rows
    → IsPackedFrom rows rows [] []
packed-none rows words present = record { same = refl; words = words; present = present }

pub all-packed_from : (rows left : List Row) (packed : List (List Row)) → length left ≡ 0 → IsPackedFrom rows left [] packed → rows_from_last packed ≡ rows
all-packed_from rows [] packed none is = is.same ∙ append-nil rows
all-packed_from rows (row ∷ left) packed none is = absurd (omega (arith, none))

pub packed-part : (rows before after : List Row) (packed : List (List Row)) (at : ℕ) (part left : List Row)
    → IsPackedFrom rows before after packed → part ≡ drop at before → left ≡ take at before
    → IsPackedFrom rows left after (packed ++ part ∷ [])
packed-part rows before after packed at part left is part_is left_is = record {
  same = ap (λ xs. left ++ xs) (from_last-push packed part)
      ∙ ap (λ xs. xs ++ (part ++ rows_from_last packed)) left_is
      ∙ ap (λ xs. take at before ++ (xs ++ rows_from_last packed)) part_is
      ∙ sym (append_assoc (take at before) (drop at before) (rows_from_last packed))
      ∙ ap (λ xs. xs ++ rows_from_last packed) (take-append-drop at before)
      ∙ is.same;
  words = subst (All (λ (row : Row). row.word < 2 ^ 62)) (sym left_is) (All-take (λ (row : Row). row.word < 2 ^ 62) at before is.words);
  present = subst (All (λ (row : Row). 1 ≤ row.count)) (sym left_is) (All-take (λ (row : Row). 1 ≤ row.count) at before is.present);
}

-- words of k bases are below 2 ^ 62
pub word-small : (k word : ℕ) → k ≤ 31 → word < 4 ^ k → word < 2 ^ 62
word-small k word most below =
    let twice : 2 * k ≤ 62 = omega (arith, most) in
    let few : 2 ^ (2 * k) ≤ 2 ^ 62 = pow_mono twice in
    let same = pow-four k in
    omega (arith, below, few, same)

pub words-small : (k : ℕ) (rows : List Row) → k ≤ 31 → All (λ row. row.word < 4 ^ k) rows → All (λ row. row.word < 2 ^ 62) rows
words-small k rows most words =
    All-weaker (λ (row : Row). row.word < 4 ^ k) (λ (row : Row). row.word < 2 ^ 62) (λ row h. word-small k row.word most h) rows words
