-- Several tables combined word by word: the least word next.
use Rattle.std.proofs.Common.{◌≡◌, ℕ, zero, suc, ◌+◌, ◌-◌, ◌^◌, ◌<◌, ◌≤◌, min, All, List, [], ◌∷◌, ◌++◌, refl, ap, sym, subst, arith, inl, inr}
use Rattle.std.specs.Prelude.{Option, Some, None, IfSome}
use Rattle.kc_tally.specs.declared.row.Row.{Row}
use Rattle.kc_combine.specs.declared.ahead.Ahead.{Ahead}
use Rattle.kc_combine.specs.declared.gives_rows.GivesRows.{Ghosts}
use Rattle.kc_tally.specs.Tally.{row_of}
use Rattle.kc_tally.specs.Sum.{lesser}
use Rattle.kc_combine.specs.Combined.{IsTooLarge, MakesNothingOfNone, TakeRows, TakesRow}
use Rattle.kc_combine.specs.Whences.{Whence}
use Rattle.kc_combine.specs.Aheads.{BeginAt, HaveLength, HaveTaken, heads_of, least_from, whences_of, word_of}
use Rattle.kc_combine.specs.Walks.{IsWalking, left_from}
use Rattle.kc_combine.proofs.CombinedLemmas.{combined_more, is_too_large}

some-inj : {a b : ℕ} → ◌≡◌ {A = Option ℕ} (Some a) (Some b) → a ≡ b
some-inj e = cc

none-some : {a : ℕ} → ◌≡◌ {A = Option ℕ} None (Some a) → ⊥
none-some e = cc

-- ---- the least word

-- it is at most the word that it began with
least_below : (word : ℕ) (least : ℕ) (heads : List (Option Row)) → least_from (Some least) heads ≡ Some word → word ≤ least
least_below word least [] e = let is = some-inj e in omega (arith, is)
least_below word least (None ∷ heads) e = least_below word least heads e
least_below word least (Some row ∷ heads) e =
    let low = least_below word (min least row.word) heads e in omega (arith, low)

-- all words are at least this one
pub least_begins : (word : ℕ) (least : Option ℕ) (heads : List (Option Row)) → least_from least heads ≡ Some word → BeginAt word heads
least_begins word least [] e = tt
least_begins word least (None ∷ heads) e = (tt, least_begins word (lesser least None) heads e)
least_begins word None (Some row ∷ heads) e = (least_below word row.word heads e, least_begins word (Some row.word) heads e)
least_begins word (Some least) (Some row ∷ heads) e =
    let low = least_below word (min least row.word) heads e in
    (omega (arith, low), least_begins word (Some (min least row.word)) heads e)

-- it is at least a word at which all begin
least_above : (bound word : ℕ) (least : Option ℕ) (heads : List (Option Row)) → IfSome least (λ l. bound ≤ l) → BeginAt bound heads
    → least_from least heads ≡ Some word → bound ≤ word
least_above bound word None [] from begin e = absurd (none-some e)
least_above bound word (Some least) [] from begin e = let is = some-inj e in omega (arith, is, from)
least_above bound word None (None ∷ heads) from begin e = least_above bound word None heads tt begin.1 e
least_above bound word (Some least) (None ∷ heads) from begin e = least_above bound word (Some least) heads from begin.1 e
least_above bound word None (Some row ∷ heads) from begin e = least_above bound word (Some row.word) heads begin.0 begin.1 e
least_above bound word (Some least) (Some row ∷ heads) from begin e =
    let here = begin.0 in least_above bound word (Some (min least row.word)) heads (omega (arith, from, here)) begin.1 e

pub least_from_bound : (bound word : ℕ) (heads : List (Option Row)) → BeginAt bound heads → least_from None heads ≡ Some word → bound ≤ word
least_from_bound bound word heads begin e = least_above bound word None heads tt begin e

-- it is below 2^62
small_least : {R F : Type 0} {G : Ghosts R F} (word : ℕ) (least : Option ℕ) (aheads : List (Ahead R F G)) → IfSome least (λ l. l < 2 ^ 62)
    → least_from least (heads_of aheads) ≡ Some word → word < 2 ^ 62
small_least word None [] from e = absurd (none-some e)
small_least word (Some least) [] from e = let is = some-inj e in omega (arith, is, from)
small_least word least (ahead ∷ aheads) from e = small_least word (lesser least (word_of ahead.head)) aheads (here least ahead.head from ahead.small) e where
  here : (least : Option ℕ) (head : Option Row) → IfSome least (λ l. l < 2 ^ 62) → IfSome head (λ row. row.word < 2 ^ 62)
      → IfSome (lesser least (word_of head)) (λ l. l < 2 ^ 62)
  here None None from small = tt
  here None (Some row) from small = small
  here (Some least) None from small = from
  here (Some least) (Some row) from small = omega (arith, from, small)

-- it has the length of the words of the tables
lesser_small : (most : ℕ) (least : Option ℕ) (head : Option Row) → IfSome least (λ l. l < most) → IfSome head (λ row. row.word < most)
    → IfSome (lesser least (word_of head)) (λ l. l < most)
lesser_small most None None from small = tt
lesser_small most None (Some row) from small = small
lesser_small most (Some least) None from small = from
lesser_small most (Some least) (Some row) from small = omega (arith, from, small)

pub first-length : (k : ℕ) (from : Whence) (others : List Whence) → All (λ from. from.k ≡ k) (from ∷ others) → from.k ≡ k
first-length k from others are = are zero from (omega arith)

pub other-lengths : (k : ℕ) (from : Whence) (others : List Whence) → All (λ from. from.k ≡ k) (from ∷ others)
    → All (λ from. from.k ≡ k) others
other-lengths k from others are i d h = are (suc i) d (omega (arith, h))

fits_from : {R F : Type 0} {G : Ghosts R F} (k word : ℕ) (least : Option ℕ) (aheads : List (Ahead R F G)) → IfSome least (λ l. l < 4 ^ k)
    → HaveLength G.whence k aheads → least_from least (heads_of aheads) ≡ Some word → word < 4 ^ k
fits_from k word None [] from have e = absurd (none-some e)
fits_from k word (Some least) [] from have e = subst (λ w. w < 4 ^ k) (some-inj e) from
fits_from {G = G} k word least (ahead ∷ aheads) from have e =
    fits_from k word (lesser least (word_of ahead.head)) aheads
    (lesser_small (4 ^ k) least ahead.head from
    (subst (λ n. IfSome ahead.head (λ row. row.word < 4 ^ n)) (first-length k (G.whence ahead.reading) (whences_of G.whence aheads) have) ahead.fits))
    (other-lengths k (G.whence ahead.reading) (whences_of G.whence aheads) have) e

pub fits_least : {R F : Type 0} {G : Ghosts R F} (k word : ℕ) (aheads : List (Ahead R F G)) → HaveLength G.whence k aheads
    → least_from None (heads_of aheads) ≡ Some word → word < 4 ^ k
fits_least k word aheads have e = fits_from k word None aheads tt have e

-- fewer words are left once all begin after it
pub fewer_left : {R F : Type 0} {G : Ghosts R F} (word : ℕ) (aheads later : List (Ahead R F G)) → least_from None (heads_of aheads) ≡ Some word
    → BeginAt (word + 1) (heads_of later) → left_from (least_from None (heads_of later)) < left_from (least_from None (heads_of aheads))
fewer_left word aheads later e begin =
    let small = small_least word None aheads tt e in
    subst (λ v. left_from (least_from None (heads_of later)) < left_from v) (sym e) (below (least_from None (heads_of later)) refl small)
  where
    below : (next : Option ℕ) → least_from None (heads_of later) ≡ next → word < 2 ^ 62 → left_from next < 2 ^ 62 - word
    below None is small = omega (arith, small)
    below (Some more) is small =
        let above = least_from_bound (word + 1) more (heads_of later) begin is in omega (arith, small, above)

-- ---- one word after another

module _ {R F : Type 0} {G : Ghosts R F} (Gave Whole : R → List Row → Type 0) (rule : List ℕ → ℕ) (nothing : MakesNothingOfNone rule)
    (word : ℕ) (aheads later : List (Ahead R F G)) (counts : List ℕ) (least : least_from None (heads_of aheads) ≡ Some word)
    (takes : (tables : List (List Row)) → HaveTaken Gave Whole aheads tables
    → (after : List (List Row)) × TakeRows tables after word counts × HaveTaken Gave Whole later after)
    (rise : BeginAt word (heads_of aheads) → BeginAt (word + 1) (heads_of later)) where
  goes_on : (bound : ℕ) (tables : List (List Row)) (rows more : List Row) → TakesRow rows more word (rule counts)
      → IsWalking Gave Whole rule bound tables aheads rows
      → (next : ℕ) × (after : List (List Row)) × IsWalking Gave Whole rule next after later more
  goes_on bound tables rows more put walking =
      let took = takes tables walking.taken in (
        word + 1,
        took.0,
        record {
          taken = took.2;
          begin = rise (least_begins word None (heads_of aheads) least);
          combined = combined_more bound word rule tables took.0 rows more counts nothing
              (least_from_bound bound word (heads_of aheads) walking.begin least) walking.combined took.1 put;
        },
      )

  -- the rule makes a count of it
  pub gives_row : (bound count : ℕ) (tables : List (List Row)) (rows : List Row) → count ≡ rule counts → 0 < count
      → IsWalking Gave Whole rule bound tables aheads rows
      → (next : ℕ) × (after : List (List Row)) × IsWalking Gave Whole rule next after later (rows ++ row_of word count ∷ [])
  gives_row bound count tables rows is some walking =
      goes_on bound tables rows (rows ++ row_of word count ∷ []) (inl (ap (λ c. rows ++ row_of word c ∷ []) is, omega (arith, is, some))) walking

  -- it leaves it out
  pub gives_none : (bound count : ℕ) (tables : List (List Row)) (rows : List Row) → count ≡ rule counts → count ≤ 0
      → IsWalking Gave Whole rule bound tables aheads rows
      → (next : ℕ) × (after : List (List Row)) × IsWalking Gave Whole rule next after later rows
  gives_none bound count tables rows is none walking =
      goes_on bound tables rows rows (inr (refl, omega (arith, is, none))) walking

  -- it makes a count above 2^62
  pub stops_too_large : (bound : ℕ) (tables : List (List Row)) (rows : List Row) → 2 ^ 62 < rule counts
      → IsWalking Gave Whole rule bound tables aheads rows
      → (after : List (List Row)) × HaveTaken Gave Whole later after × IsTooLarge rule after rows
  stops_too_large bound tables rows above walking =
      let took = takes tables walking.taken in (
        took.0,
        took.2,
        is_too_large bound word rule tables took.0 rows counts nothing
            (least_from_bound bound word (heads_of aheads) walking.begin least) walking.combined took.1 above,
      )
