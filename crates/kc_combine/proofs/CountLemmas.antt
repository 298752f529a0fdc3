-- What rules compute of the counts of one word.
use Rattle.std.proofs.Common.{◌≡◌, ℕ, zero, suc, min, ◌≤◌, ◌&&◌, nat_le, Bool, true, false, All, List, [], ◌∷◌, if◌then◌else◌, refl, arith, zero-le, le_refl}
use Rattle.kc_combine.specs.Combined.{all_have, difference, difference_of_counts, first_of, greatest_of, intersection, least_of, none_has, within}
use Rattle.kc_combine.specs.Laws.{KeepsFirst, StaysWithin}

-- ---- the least and the greatest

-- the lesser of the first two counts may take their place
pub least_of_two : (count next : ℕ) (counts : List ℕ) → least_of (min count next ∷ counts) ≡ least_of (count ∷ next ∷ counts)
least_of_two count next [] = refl
least_of_two count next (more ∷ counts) = omega arith

least_most : (count : ℕ) (counts : List ℕ) → least_of (count ∷ counts) ≤ count
least_most count [] = le_refl count
least_most count (next ∷ counts) = omega arith

either : (b : Bool) (count most : ℕ) → count ≤ most → (if b then count else 0) ≤ most
either true count most h = h
either false count most h = zero-le

greatest_most : (most : ℕ) (counts : List ℕ) → All (λ count. count ≤ most) counts → greatest_of counts ≤ most
greatest_most most [] are = zero-le
greatest_most most (count ∷ counts) are =
    choose (nat_le count (greatest_of counts)) (greatest_most most counts (λ i d h. are (suc i) d (omega (arith, h))))
    (are zero count (omega arith))
  where
    choose : (b : Bool) → greatest_of counts ≤ most → count ≤ most → (if b then greatest_of counts else count) ≤ most
    choose true rest here = rest
    choose false rest here = here

-- ---- the counts of the first table

pub least_keeps_first : KeepsFirst (intersection least_of)
least_keeps_first [] = zero-le
least_keeps_first (count ∷ counts) = either (all_have (count ∷ counts)) (least_of (count ∷ counts)) count (least_most count counts)

pub first_keeps_first : KeepsFirst (intersection first_of)
first_keeps_first [] = zero-le
first_keeps_first (count ∷ counts) = either (all_have (count ∷ counts)) count count (le_refl count)

pub difference_keeps_first : KeepsFirst difference
difference_keeps_first [] = zero-le
difference_keeps_first (count ∷ others) = either (none_has others) count count (le_refl count)

pub counts_keep_first : KeepsFirst difference_of_counts
counts_keep_first [] = zero-le
counts_keep_first (count ∷ others) = omega arith

pub within_keeps_first : (least most : ℕ) → KeepsFirst (within least most)
within_keeps_first least most [] = zero-le
within_keeps_first least most (count ∷ others) = either (nat_le least count && nat_le count most) count count (le_refl count)

pub greatest_stays : StaysWithin (intersection greatest_of)
greatest_stays most [] are = zero-le
greatest_stays most (count ∷ counts) are =
    either (all_have (count ∷ counts)) (greatest_of (count ∷ counts)) most (greatest_most most (count ∷ counts) are)
