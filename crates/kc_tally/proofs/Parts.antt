-- Rows in parts, part after part.
use Rattle.std.proofs.Common.{◌≡◌, ℕ, ◌+◌, ◌-◌, ◌^◌, ◌<◌, ◌≤◌, Bool, true, false, cond, List, [], ◌∷◌, ◌++◌, length, get_or, take, drop, filter, All, refl, ap, sym, ◌∙◌, arith}
use Rattle.std.specs.Prelude.{nat_lt}
use Rattle.std.specs.List.{flat_map}
use Rattle.std.proofs.lemmas.List.{take-append-drop, append-nil, length-append}
use Rattle.std.proofs.Math.Seq.{take-add}
use Rattle.std.proofs.lemmas.Bool.Decides.{nat_tests}
use Rattle.std.proofs.lemmas.List.Concat.{flat_map-append}
use Rattle.std.proofs.lemmas.List.Elements.{filter_passes, All-weaker}
use Rattle.kc_lemmas.proofs.Lists.{flat_map_take_more}
use Rattle.kc_lemmas.proofs.Sums.{sum_by-ones, sum_by-at_most}
use Rattle.kc_tally.specs.declared.row.Row.{Row}
use Rattle.kc_tally.specs.Tally.{AreRows}

-- ---- parts of any kind, of which each has rows

module _ {P : Type 0} (items : P → List Row) where
  pub parts-split : (parts : List P) (i : ℕ) → flat_map items parts ≡ flat_map items (take i parts) ++ flat_map items (drop i parts)
  parts-split parts i = ap (flat_map items) (sym (take-append-drop i parts)) ∙ flat_map-append items (take i parts) (drop i parts)

  pub parts-next : (parts : List P) (i : ℕ) (d : P) → i < length parts
      → flat_map items (take (i + 1) parts) ≡ flat_map items (take i parts) ++ items (get_or parts i d)
  parts-next parts i d h = flat_map_take_more items parts i d h

  pub parts-push : (parts : List P) (part : P) → flat_map items (parts ++ part ∷ []) ≡ flat_map items parts ++ items part
  parts-push parts part =
      flat_map-append items parts (part ∷ []) ∙ ap (λ xs. flat_map items parts ++ xs) (append-nil (items part))

  pub long-front : (parts : List P) (i : ℕ) → length (flat_map items (take i parts)) ≤ length (flat_map items parts)
  long-front parts i =
      let long = ap length (parts-split parts i) ∙ length-append (flat_map items (take i parts)) (flat_map items (drop i parts)) in
      omega (arith, long)

  pub long-next : (parts : List P) (i : ℕ) (d : P) → i < length parts
      → length (flat_map items (take (i + 1) parts)) ≡ length (flat_map items (take i parts)) + length (items (get_or parts i d))
  long-next parts i d h = ap length (parts-next parts i d h) ∙ length-append (flat_map items (take i parts)) (items (get_or parts i d))

  -- one more part, of the rows up to an end
  pub parts-on : (parts : List P) (part : P) (rows : List Row) (at end : ℕ) → at ≤ end → flat_map items parts ≡ take at rows
      → items part ≡ take (end - at) (drop at rows) → flat_map items (parts ++ part ∷ []) ≡ take end rows
  parts-on parts part rows at end le so_far is =
      parts-push parts part ∙ ap (λ xs. flat_map items parts ++ xs) is
      ∙ ap (λ xs. xs ++ take (end - at) (drop at rows)) so_far ∙ sym (take-add at (end - at) rows)
      ∙ ap (λ n. take n rows) (omega (arith, le))

-- ---- the rows of all parts

abbrev pub all_rows : List (List Row) → List Row
all_rows parts = flat_map (λ part. part) parts

-- there are no more rows than they count together
pub rows-few : (k : ℕ) (both : Bool) (rows : List Row) → AreRows k both rows → length rows ≤ 2 ^ 62
rows-few k both rows are =
    let ones = sum_by-ones rows in
    let most = sum_by-at_most (λ _. 1) (λ (row : Row). row.count) rows are.ordered.present in
    omega (arith, ones, most, are.small)

-- ---- the parts that have rows

unfoldable pub has_rows : List Row → Bool
has_rows part = nat_lt 0 (length part)

all_rows-or_none : (b : Bool) (part : List Row) (parts : List (List Row)) → b ≡ has_rows part
    → all_rows (cond b (part ∷ parts) parts) ≡ part ++ all_rows parts
unfolding has_rows
all_rows-or_none true part parts is = refl
all_rows-or_none false [] parts is = refl
all_rows-or_none false (row ∷ part) parts is = absurd (grind (arith, nat_tests, is))

pub all_rows-some : (parts : List (List Row)) → all_rows (filter has_rows parts) ≡ all_rows parts
all_rows-some [] = refl
all_rows-some (part ∷ parts) =
    all_rows-or_none (has_rows part) part (filter has_rows parts) refl ∙ ap (λ rows. part ++ rows) (all_rows-some parts)

pub All-some : (parts : List (List Row)) → All (λ part. 1 ≤ length part) (filter has_rows parts)
unfolding has_rows
All-some parts =
    All-weaker (λ part. has_rows part ≡ true) (λ part. 1 ≤ length part) (λ part h. grind (arith, nat_tests, h)) (filter has_rows parts)
    (filter_passes has_rows parts)
