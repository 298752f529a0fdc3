-- Which numbers are among the numbers below n.
use Rattle.std.proofs.Common.{ℕ, ◌<◌, List, get_or, eqb}
use Rattle.std.proofs.Common.{sym, subst, arith, ne_eqb}
use Rattle.std.specs.List.{IsDistinct, range_with_len}
use Rattle.std.specs.Prelude.{Contains}
use Rattle.std.proofs.lemmas.Bool.Decides.{eqb_tells}
use Rattle.std.proofs.lemmas.Map.Keys.{IsDistinct-from_apart, IsDistinct-IsPermutation}
use Rattle.std.proofs.lemmas.List.FromFn.{length-range_with_len, get_or-range_with_len}
use Rattle.std.proofs.lemmas.List.Sorted.{IsPermutation-sym, Contains-permutation}
use Rattle.kc_lemmas.proofs.Distinct.{equal_flips}
use Rattle.kc_tickets.specs.Tickets.{numbers_below}
use Rattle.kc_tickets.specs.Laws.{EachStandsOnce}
use Rattle.kc_tickets.proofs.NumbersBelow.{numbers_below_is, below-from_Contains}

distinct_below : (n : ℕ) → IsDistinct eqb (numbers_below n)
distinct_below n =
    subst (IsDistinct eqb) (sym (numbers_below_is n)) (IsDistinct-from_apart eqb (range_with_len 0 n) (λ i j d before within.
    let last : j < n = omega (arith, length-range_with_len 0 n) in
    let first : i < n = omega arith in
    let one = get_or-range_with_len 0 n i d first in
    let other = get_or-range_with_len 0 n j d last in
    ne_eqb (get_or (range_with_len 0 n) i d) (get_or (range_with_len 0 n) j d) (λ same. omega arith)))

stands_below : (n number : ℕ) → number < n → Contains (numbers_below n) number
stands_below n number less =
    subst (λ (xs : List ℕ). Contains xs number) (sym (numbers_below_is n))
    (number, omega (arith, length-range_with_len 0 n), omega (arith, get_or-range_with_len 0 n number number less))

pub each_once : EachStandsOnce
each_once n numbers whole =
    let back = IsPermutation-sym numbers (numbers_below n) whole in (
      IsDistinct-IsPermutation eqb (equal_flips eqb eqb_tells) (numbers_below n) numbers back (distinct_below n),
      λ number. (
        (λ stands. below-from_Contains n number (Contains-permutation numbers (numbers_below n) number whole stands)),
        (λ less. Contains-permutation (numbers_below n) numbers number back (stands_below n number less)),
      ),
    )
