-- A row is taken of a table that is read row by row.
use Rattle.std.proofs.Common.{◌≡◌, ℕ, zero, suc, get_or, slice_set, ◌+◌, ◌<◌, ◌≤◌, List, [], ◌∷◌, ◌++◌, length, map, IfSome, IfNone, refl, ap, ap₂, ◌∙◌, subst, arith, inl, inr}
use Rattle.std.specs.Prelude.{Option, Some, None}
use Rattle.std.proofs.lemmas.List.{get_or_push, length-map, length_push}
use Rattle.kc_tally.specs.declared.row.Row.{Row}
use Rattle.kc_tally.specs.Tally.{row_of, AreOrderedRows}
use Rattle.kc_combine.specs.declared.ahead.Ahead.{Ahead}
use Rattle.kc_combine.specs.declared.gives_rows.GivesRows.{Ghosts}
use Rattle.kc_combine.specs.Combined.{TakesRow, TakeRows}
use Rattle.kc_combine.specs.Whences.{Whence}
use Rattle.kc_combine.specs.Aheads.{BeginAt, BeginTo, BeginsAt, FailsAt, HadCountsTo, HasTaken, HaveTaken, HaveTakenTo, count_at, heads_of, whences_of}

-- the last of rows in order has a count
pub last_present : (bound : ℕ) (rows : List Row) (row : Row) → AreOrderedRows bound (rows ++ row ∷ []) → 1 ≤ row.count
last_present bound rows row are =
    let long = length_push rows row in
    subst (λ (r : Row). 1 ≤ r.count) (get_or_push rows row row (length rows) refl) (are.present (length rows) row (omega (arith, long)))

-- the row that is at hand is the next one of its table
pub takes_head : (bound word : ℕ) (rows : List Row) (row : Row) → row.word ≡ word → AreOrderedRows bound (rows ++ row ∷ [])
    → TakesRow rows (rows ++ row ∷ []) word row.count
takes_head bound word rows row is are =
    inl (ap (λ w. rows ++ row_of w row.count ∷ []) is, last_present bound rows row are)

-- after it the next one is already read, or none is left
pub has_next : {R : Type 0} (Gave Whole : R → List Row → Type 0) (reading : R) (next : Option Row) (rows : List Row)
    → IfSome next (λ row. Gave reading (rows ++ row ∷ [])) → IfNone next (Whole reading rows)
    → HasTaken Gave Whole reading next rows
has_next Gave Whole reading None rows some none = none
has_next Gave Whole reading (Some row) rows some none = some

-- ---- of all tables

module _ {R F : Type 0} {G : Ghosts R F} (Gave Whole : R → List Row → Type 0) (word : ℕ) where
  -- of the next table too
  pub taken_next : (i : ℕ) (aheads : List (Ahead R F G)) (befores afters : List (List Row)) (counts : List ℕ) (old new : Ahead R F G) (count : ℕ)
      → HaveTakenTo Gave Whole i aheads befores afters word counts → i < length aheads → length counts ≡ length aheads
      → ((rows : List Row) → HasTaken Gave Whole (get_or aheads i old).reading (get_or aheads i old).head rows
      → (after : List Row) × TakesRow rows after word count × HasTaken Gave Whole new.reading new.head after)
      → (more : List (List Row)) × HaveTakenTo Gave Whole (suc i) (slice_set aheads i new) befores more word (slice_set counts i count)
  taken_next zero [] befores afters counts old new count so_far h alike takes = absurd (omega (arith, h))
  taken_next zero (ahead ∷ aheads) [] afters counts old new count so_far h alike takes = absurd so_far
  taken_next zero (ahead ∷ aheads) (before ∷ befores) afters [] old new count so_far h alike takes = absurd (omega (arith, alike))
  taken_next zero (ahead ∷ aheads) (before ∷ befores) afters (c ∷ counts) old new count so_far h alike takes =
      let took = takes before so_far.0 in
      (took.0 ∷ [], (took.1, took.2, so_far.1))
  taken_next (suc i) [] befores afters counts old new count so_far h alike takes = absurd (omega (arith, h))
  taken_next (suc i) (ahead ∷ aheads) [] afters counts old new count so_far h alike takes = absurd so_far
  taken_next (suc i) (ahead ∷ aheads) (before ∷ befores) [] counts old new count so_far h alike takes = absurd so_far
  taken_next (suc i) (ahead ∷ aheads) (before ∷ befores) (after ∷ afters) [] old new count so_far h alike takes = absurd so_far
  taken_next (suc i) (ahead ∷ aheads) (before ∷ befores) (after ∷ afters) (c ∷ counts) old new count so_far h alike takes =
      let rest = taken_next i aheads befores afters counts old new count so_far.2 (omega (arith, h)) (omega (arith, alike)) takes in
      (after ∷ rest.0, (so_far.0, so_far.1, rest.1))

  pub taken_more : (i : ℕ) (aheads : List (Ahead R F G)) (befores afters : List (List Row)) (counts : List ℕ) (old new : Ahead R F G) (count : ℕ)
      → HaveTakenTo Gave Whole i aheads befores afters word counts → i < length aheads → length counts ≡ length aheads
      → ((rows : List Row) → HasTaken Gave Whole (get_or aheads i old).reading (get_or aheads i old).head rows
      → (after : List Row) × TakesRow rows after word count × HasTaken Gave Whole new.reading new.head after)
      → (more : List (List Row)) × HaveTakenTo Gave Whole (i + 1) (slice_set aheads i new) befores more word (slice_set counts i count)
  taken_more i aheads befores afters counts old new count so_far h alike takes =
      subst (λ n. (more : List (List Row)) × HaveTakenTo Gave Whole n (slice_set aheads i new) befores more word (slice_set counts i count))
      (let one : suc i ≡ i + 1 = omega arith in one)
      (taken_next i aheads befores afters counts old new count so_far h alike takes)

  -- of all
  pub taken_all : (i : ℕ) (aheads : List (Ahead R F G)) (befores afters : List (List Row)) (counts : List ℕ)
      → HaveTakenTo Gave Whole i aheads befores afters word counts → length aheads ≤ i → length counts ≡ length aheads
      → (more : List (List Row)) × TakeRows befores more word counts × HaveTaken Gave Whole aheads more
  taken_all i [] befores afters (c ∷ counts) so_far h alike = absurd (omega (arith, alike))
  taken_all zero [] [] afters [] so_far h alike = ([], tt, tt)
  taken_all zero [] (before ∷ befores) afters [] so_far h alike = absurd so_far
  taken_all (suc i) [] befores afters [] so_far h alike = absurd so_far
  taken_all zero (ahead ∷ aheads) befores afters counts so_far h alike = absurd (omega (arith, h))
  taken_all (suc i) (ahead ∷ aheads) [] afters counts so_far h alike = absurd so_far
  taken_all (suc i) (ahead ∷ aheads) (before ∷ befores) [] counts so_far h alike = absurd so_far
  taken_all (suc i) (ahead ∷ aheads) (before ∷ befores) (after ∷ afters) [] so_far h alike = absurd so_far
  taken_all (suc i) (ahead ∷ aheads) (before ∷ befores) (after ∷ afters) (c ∷ counts) so_far h alike =
      let rest = taken_all i aheads befores afters counts so_far.2 (omega (arith, h)) (omega (arith, alike)) in
      (after ∷ rest.0, (so_far.0, rest.1), (so_far.1, rest.2))

-- ---- their counts

pub heads_long : {R F : Type 0} {G : Ghosts R F} (aheads : List (Ahead R F G)) → length (heads_of aheads) ≡ length aheads
heads_long aheads = length-map aheads (λ ahead. ahead.head)

module _ (word : ℕ) where
  counted_next : {R F : Type 0} {G : Ghosts R F} (i : ℕ) (olds : List (Option Row)) (aheads : List (Ahead R F G)) (counts : List ℕ)
      (old new : Ahead R F G) (count : ℕ)
      → HadCountsTo i word olds (heads_of aheads) counts → i < length aheads → length counts ≡ length aheads
      → count ≡ count_at word (get_or aheads i old).head
      → HadCountsTo (suc i) word olds (heads_of (slice_set aheads i new)) (slice_set counts i count)
  counted_next zero olds [] counts old new count so_far h alike is = absurd (omega (arith, h))
  counted_next zero [] (ahead ∷ aheads) counts old new count so_far h alike is = absurd cc
  counted_next zero (head ∷ olds) (ahead ∷ aheads) [] old new count so_far h alike is = absurd (omega (arith, alike))
  counted_next zero (head ∷ olds) (ahead ∷ aheads) (c ∷ counts) old new count so_far h alike is =
      (is ∙ ap (count_at word) (let same : ahead.head ≡ head = cc in same), cc)
  counted_next (suc i) olds [] counts old new count so_far h alike is = absurd (omega (arith, h))
  counted_next (suc i) [] (ahead ∷ aheads) counts old new count so_far h alike is = absurd so_far
  counted_next (suc i) (head ∷ olds) (ahead ∷ aheads) [] old new count so_far h alike is = absurd so_far
  counted_next (suc i) (head ∷ olds) (ahead ∷ aheads) (c ∷ counts) old new count so_far h alike is =
      (so_far.0, counted_next i olds aheads counts old new count so_far.1 (omega (arith, h)) (omega (arith, alike)) is)

  pub counted_more : {R F : Type 0} {G : Ghosts R F} (i : ℕ) (olds : List (Option Row)) (aheads : List (Ahead R F G)) (counts : List ℕ)
      (old new : Ahead R F G) (count : ℕ)
      → HadCountsTo i word olds (heads_of aheads) counts → i < length aheads → length counts ≡ length aheads
      → count ≡ count_at word (get_or aheads i old).head
      → HadCountsTo (i + 1) word olds (heads_of (slice_set aheads i new)) (slice_set counts i count)
  counted_more i olds aheads counts old new count so_far h alike is =
      subst (λ n. HadCountsTo n word olds (heads_of (slice_set aheads i new)) (slice_set counts i count))
      (let one : suc i ≡ i + 1 = omega arith in one) (counted_next i olds aheads counts old new count so_far h alike is)

  pub counted_all : (i : ℕ) (olds news : List (Option Row)) (counts : List ℕ) → HadCountsTo i word olds news counts
      → length news ≤ i → length counts ≡ length news → counts ≡ map (count_at word) olds
  counted_all zero [] [] [] so_far h alike = refl
  counted_all zero [] [] (c ∷ counts) so_far h alike = absurd (omega (arith, alike))
  counted_all zero (old ∷ olds) [] counts so_far h alike = absurd cc
  counted_all zero olds (new ∷ news) counts so_far h alike = absurd (omega (arith, h))
  counted_all (suc i) [] news counts so_far h alike = absurd so_far
  counted_all (suc i) (old ∷ olds) [] counts so_far h alike = absurd so_far
  counted_all (suc i) (old ∷ olds) (new ∷ news) [] so_far h alike = absurd so_far
  counted_all (suc i) (old ∷ olds) (new ∷ news) (c ∷ counts) so_far h alike =
      ap₂ (λ d ds. d ∷ ds) so_far.0 (counted_all i olds news counts so_far.1 (omega (arith, h)) (omega (arith, alike)))

-- ---- the fault of a table

module _ {R F : Type 0} {G : Ghosts R F} (Gave Whole : R → List Row → Type 0) (Fails : R → List Row → F → Type 0) (word : ℕ) (fault : F) where
  pub fails_at : (i : ℕ) (aheads : List (Ahead R F G)) (befores afters : List (List Row)) (counts : List ℕ) (old new : Ahead R F G)
      → HaveTakenTo Gave Whole i aheads befores afters word counts → i < length aheads
      → ((rows : List Row) → HasTaken Gave Whole (get_or aheads i old).reading (get_or aheads i old).head rows
      → (row : Row) × Fails new.reading (rows ++ row ∷ []) fault)
      → FailsAt Fails (slice_set aheads i new) befores fault
  fails_at i [] befores afters counts old new so_far h fails = absurd (omega (arith, h))
  fails_at zero (ahead ∷ aheads) [] afters counts old new so_far h fails = absurd so_far
  fails_at zero (ahead ∷ aheads) (before ∷ befores) afters counts old new so_far h fails = inl (fails before so_far.0)
  fails_at (suc i) (ahead ∷ aheads) [] afters counts old new so_far h fails = absurd so_far
  fails_at (suc i) (ahead ∷ aheads) (before ∷ befores) [] counts old new so_far h fails = absurd so_far
  fails_at (suc i) (ahead ∷ aheads) (before ∷ befores) (after ∷ afters) [] old new so_far h fails = absurd so_far
  fails_at (suc i) (ahead ∷ aheads) (before ∷ befores) (after ∷ afters) (c ∷ counts) old new so_far h fails =
      inr (fails_at i aheads befores afters counts old new so_far.2 (omega (arith, h)) fails)

-- ---- the length of the words

-- a table whose words keep their length changes no length
pub whences_stay : {R F : Type 0} {G : Ghosts R F} (whence : R → Whence) (i : ℕ) (aheads : List (Ahead R F G)) (old new : Ahead R F G)
    → i < length aheads → whence new.reading ≡ whence (get_or aheads i old).reading
    → whences_of whence (slice_set aheads i new) ≡ whences_of whence aheads
whences_stay whence i [] old new h same = absurd (omega (arith, h))
whences_stay whence zero (ahead ∷ aheads) old new h same = ap (λ n. n ∷ whences_of whence aheads) same
whences_stay whence (suc i) (ahead ∷ aheads) old new h same =
    ap (λ ns. whence ahead.reading ∷ ns) (whences_stay whence i aheads old new (omega (arith, h)) same)

-- ---- the words that are left

module _ {R F : Type 0} {G : Ghosts R F} (word : ℕ) where
  rise_next : (i : ℕ) (aheads : List (Ahead R F G)) (old new : Ahead R F G) → BeginTo i word (heads_of aheads) → i < length aheads
      → (BeginsAt word (get_or aheads i old).head → BeginsAt (word + 1) new.head)
      → BeginTo (suc i) word (heads_of (slice_set aheads i new))
  rise_next zero [] old new begin h rises = absurd (omega (arith, h))
  rise_next zero (ahead ∷ aheads) old new begin h rises = (rises begin.0, begin.1)
  rise_next (suc i) [] old new begin h rises = absurd (omega (arith, h))
  rise_next (suc i) (ahead ∷ aheads) old new begin h rises = (begin.0, rise_next i aheads old new begin.1 (omega (arith, h)) rises)

  pub rise_more : (i : ℕ) (aheads : List (Ahead R F G)) (old new : Ahead R F G) → BeginTo i word (heads_of aheads) → i < length aheads
      → (BeginsAt word (get_or aheads i old).head → BeginsAt (word + 1) new.head)
      → BeginTo (i + 1) word (heads_of (slice_set aheads i new))
  rise_more i aheads old new begin h rises =
      subst (λ n. BeginTo n word (heads_of (slice_set aheads i new))) (let one : suc i ≡ i + 1 = omega arith in one)
      (rise_next i aheads old new begin h rises)

  pub rise_all : (i : ℕ) (aheads : List (Ahead R F G)) → BeginTo i word (heads_of aheads) → length aheads ≤ i
      → BeginAt (word + 1) (heads_of aheads)
  rise_all zero [] begin h = tt
  rise_all (suc i) [] begin h = tt
  rise_all zero (ahead ∷ aheads) begin h = absurd (omega (arith, h))
  rise_all (suc i) (ahead ∷ aheads) begin h = (begin.0, rise_all i aheads begin.1 (omega (arith, h)))
