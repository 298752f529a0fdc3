-- The first rows of a part, and those after them.
use Rattle.std.proofs.Common.{◌≡◌, ◌∙◌, ℕ, suc, ◌+◌, Bool, true, false, cond, List, [], ◌∷◌, ◌++◌, length, drop}
use Rattle.std.proofs.Common.{refl, sym, ap, arith}
use Rattle.std.specs.List.{count_by}
use Rattle.std.proofs.lemmas.List.Sums.{sum_by-cons}
use Rattle.std.proofs.Math.Seq.{drop-nil}
use Rattle.kc_tally.specs.declared.row.Row.{Row}
use Rattle.kc_tally.specs.Packing.{LayoutSeen, is_apart, rows_of, unpacked}

-- so many items are skipped, and then one more at the front
drop-one_more : {X : Type 0} (n : ℕ) (xs : List X) → drop n (drop 1 xs) ≡ drop (suc n) xs
drop-one_more n [] = drop-nil n ∙ sym (drop-nil (suc n))
drop-one_more n (x ∷ xs) = refl

module _ (l : LayoutSeen) where
  -- the large rows of what follows one packed row and others
  left-cons : (b : Bool) (n : ℕ) (large : List Row) → drop n (cond b (drop 1 large) large) ≡ drop (cond b 1 0 + n) large
  left-cons true n large =
      let more : suc n ≡ 1 + n = omega arith in drop-one_more n large ∙ ap (λ m. drop m large) more
  left-cons false n large =
      let same : n ≡ 0 + n = omega arith in ap (λ m. drop m large) same

  -- there are as many rows as packed ones
  pub length-rows_of : (packed : List ℕ) (large : List Row) → length (rows_of l packed large) ≡ length packed
  length-rows_of [] large = refl
  length-rows_of (p ∷ packed) large = ap suc (length-rows_of packed (cond (is_apart l p) (drop 1 large) large))

  -- the rows of joined packed ones are the rows of both
  pub rows_of-append : (front rest : List ℕ) (large : List Row)
      → rows_of l (front ++ rest) large ≡ rows_of l front large ++ rows_of l rest (drop (count_by (is_apart l) front) large)
  rows_of-append [] rest large = refl
  rows_of-append (p ∷ front) rest large =
      let left = cond (is_apart l p) (drop 1 large) large in
      let count : count_by (is_apart l) (p ∷ front) ≡ cond (is_apart l p) 1 0 + count_by (is_apart l) front =
      sum_by-cons (λ x. cond (is_apart l x) 1 0) p front in
      ap (λ rows. unpacked l p large ∷ rows) (rows_of-append front rest left
      ∙ ap (λ behind. rows_of l front left ++ rows_of l rest behind)
      (left-cons (is_apart l p) (count_by (is_apart l) front) large ∙ ap (λ n. drop n large) (sym count)))

  -- the first packed rows and those after them, if these large rows are left for those
  pub rows-cut : (packed front rest : List ℕ) (large left : List Row) → packed ≡ front ++ rest
      → left ≡ drop (count_by (is_apart l) front) large
      → rows_of l front large ++ rows_of l rest left ≡ rows_of l packed large
  rows-cut packed front rest large left is left_is =
      ap (λ behind. rows_of l front large ++ rows_of l rest behind) left_is
      ∙ sym (rows_of-append front rest large) ∙ ap (λ ps. rows_of l ps large) (sym is)
