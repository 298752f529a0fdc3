-- The numbers below n: how many they are, what they weigh, and that each is below n.
use Rattle.std.proofs.Common.{◌≡◌, ℕ, suc, ◌+◌, ◌<◌, [], ◌∷◌, ◌++◌, length, Contains, sum_by, refl, ap, ◌∙◌, arith}
use Rattle.std.specs.List.{range_with_len}
use Rattle.std.proofs.lemmas.List.FromFn.{length-range_with_len, get_or-range_with_len}
use Rattle.std.proofs.lemmas.List.Sums.{sum_by_push}
use Rattle.kc_lemmas.proofs.Lists.{range_more}
use Rattle.kc_tickets.specs.Tickets.{numbers_below}

pub numbers_below_is : (n : ℕ) → numbers_below n ≡ range_with_len 0 n
unfolding numbers_below
numbers_below_is n = refl

pub numbers_below-zero : numbers_below 0 ≡ []
unfolding numbers_below
numbers_below-zero = refl

pub numbers_below-suc : (n : ℕ) → numbers_below (suc n) ≡ numbers_below n ++ n ∷ []
unfolding numbers_below
numbers_below-suc n = ap (range_with_len 0) next ∙ range_more n
  where
    next : suc n ≡ n + 1
    next = omega arith

pub length-numbers_below : (n : ℕ) → length (numbers_below n) ≡ n
unfolding numbers_below
length-numbers_below n = length-range_with_len 0 n

pub sum_by-numbers_below-suc : (f : ℕ → ℕ) (n : ℕ) → sum_by f (numbers_below (suc n)) ≡ sum_by f (numbers_below n) + f n
sum_by-numbers_below-suc f n = ap (sum_by f) (numbers_below-suc n) ∙ sum_by_push f (numbers_below n) n

pub below-from_Contains : (n number : ℕ) → Contains (numbers_below n) number → number < n
unfolding numbers_below
below-from_Contains n number (k, within, is) =
    let less : k < n = omega (arith, length-range_with_len 0 n) in
    omega (arith, get_or-range_with_len 0 n k number less)
