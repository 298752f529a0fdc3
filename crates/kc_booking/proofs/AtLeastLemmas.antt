-- How many counts are at least c, for each c: how this is read, what changes it, and the bins that follow.
use Rattle.std.proofs.Common.{◌≡◌, ℕ, ◌+◌, ◌-◌, ◌<◌, ◌≤◌, ⊎_elim, Bool, cond, eqb, leb, List, [], ◌∷◌, ◌++◌, length, get_or, set, sum_by, refl, ap, sym, ◌∙◌, subst, arith, eq-eqb, ne_eqb, length-set, replicate}
use Rattle.std.proofs.lemmas.Bool.{cases_eq, cases_lt, cond-true, cond-false, le-leb}
use Rattle.std.proofs.lemmas.Bool.Decides.{nat_tests}
use Rattle.std.proofs.lemmas.List.{ext_get_or, get_or-set_same, get_or-set_other, get_or_past, get_or_append_left, get_or-append-add, get_or-replicate, length-replicate}
use Rattle.std.proofs.lemmas.List.FromFn.{length-map-range_with_len, get_or-map-range_with_len}
use Rattle.std.proofs.lemmas.List.Sums.{count_by-le-length}
use Rattle.kc_lemmas.proofs.Sums.{sum_by-plus, sum_by-same, sum_by-at_most}
use Rattle.kc_tally.specs.Histogram.{last_bin, bin_of, bin_size, bins_of}
use Rattle.kc_tally.proofs.Bins.{IsOneMore, bins_of-from, one_at}
use Rattle.kc_booking.specs.AtLeast.{at_least, at_least_of, number_at, difference_at, bins_from, changed, risen, fallen}

-- 1 if the count is at least c
abbrev from_on : ℕ → ℕ → ℕ
from_on c count = cond (leb c count) 1 0

-- one item is counted if two numbers are equal, and none if they are not
pub one-same : (a b : ℕ) → a ≡ b → cond {A = ℕ} (eqb a b) 1 0 ≡ 1
one-same a b same = ap (λ (t : Bool). cond {A = ℕ} t 1 0) (eq-eqb a b same)

pub none-other : (a b : ℕ) → (a ≡ b → ⊥) → cond {A = ℕ} (eqb a b) 1 0 ≡ 0
none-other a b other = ap (λ (t : Bool). cond {A = ℕ} t 1 0) (ne_eqb a b other)

-- ---- reading the numbers

pub length-at_least_of : (counts : List ℕ) → length (at_least_of counts) ≡ last_bin
unfolding at_least_of
length-at_least_of counts = length-map-range_with_len (λ c. at_least counts c) 1 last_bin

get_or-at_least_of : (counts : List ℕ) (i : ℕ) → i < last_bin → get_or (at_least_of counts) i 0 ≡ at_least counts (i + 1)
unfolding at_least_of
get_or-at_least_of counts i within = get_or-map-range_with_len (λ c. at_least counts c) 1 last_bin i (i + 1) 0 within (omega arith)

-- as many numbers, each the right one, are those of the counts
at_least_of-from : (counts numbers : List ℕ) → length numbers ≡ last_bin → ((i : ℕ) → i < last_bin → get_or numbers i 0 ≡ at_least counts (i + 1))
    → numbers ≡ at_least_of counts
at_least_of-from counts numbers long each =
    ext_get_or 0 numbers (at_least_of counts) (long ∙ sym (length-at_least_of counts))
    (λ i within. let small : i < last_bin = omega (arith, within, long) in each i small ∙ sym (get_or-at_least_of counts i small))

at_least-most : (counts : List ℕ) (c : ℕ) → at_least counts c ≤ length counts
unfolding at_least
at_least-most counts c = count_by-le-length (λ count. leb c count) counts

pub number_at-most : (counts : List ℕ) (c : ℕ) → 1 ≤ c → number_at (at_least_of counts) c ≤ length counts
number_at-most counts c some = ⊎_elim
    (λ (within : c - 1 < last_bin). omega (arith, get_or-at_least_of counts (c - 1) within, at_least-most counts (c - 1 + 1)))
    (λ (past : last_bin ≤ c - 1). omega (arith, get_or_past (at_least_of counts) (c - 1) 0 (omega (arith, past, length-at_least_of counts))))
    (cases_lt (c - 1) last_bin)

from_on-falls : (c count : ℕ) → from_on (c + 1) count ≤ from_on c count
from_on-falls c count = grind (arith, nat_tests)

at_least-falls : (counts : List ℕ) (c : ℕ) → at_least counts (c + 1) ≤ at_least counts c
unfolding at_least
at_least-falls counts c = sum_by-at_most (from_on (c + 1)) (from_on c) counts (λ i d within. from_on-falls c (get_or counts i d))

-- the numbers don't rise from one to the next
pub number_at-falls : (counts : List ℕ) (c : ℕ) → 1 ≤ c → number_at (at_least_of counts) (c + 1) ≤ number_at (at_least_of counts) c
number_at-falls counts c some = ⊎_elim
    (λ (within : c < last_bin).
    let next : c + 1 - 1 ≡ c = omega arith in
    let here : c - 1 + 1 ≡ c = omega (arith, some) in
    let greater : number_at (at_least_of counts) (c + 1) ≡ at_least counts (c + 1) =
    ap (λ i. get_or (at_least_of counts) i 0) next ∙ get_or-at_least_of counts c within in
    let all : number_at (at_least_of counts) c ≡ at_least counts c =
    get_or-at_least_of counts (c - 1) (omega (arith, within)) ∙ ap (at_least counts) here in
    omega (arith, greater, all, at_least-falls counts c))
    (λ (last : last_bin ≤ c).
    omega (arith, get_or_past (at_least_of counts) (c + 1 - 1) 0 (omega (arith, last, length-at_least_of counts))))
    (cases_lt c last_bin)

-- ---- the bins

from_on-bin : (bin count : ℕ) → bin < last_bin → from_on bin count ≡ one_at (bin_of count) bin + from_on (bin + 1) count
from_on-bin bin count within = grind (arith, nat_tests)

from_on-last : (count : ℕ) → from_on last_bin count ≡ one_at (bin_of count) last_bin
from_on-last count = grind (arith, nat_tests)

bin_size-difference : (counts : List ℕ) (bin : ℕ) → bin < last_bin → at_least counts bin ≡ bin_size counts bin + at_least counts (bin + 1)
unfolding at_least bin_size
bin_size-difference counts bin within =
    sum_by-same (from_on bin) (λ count. one_at (bin_of count) bin + from_on (bin + 1) count) counts
    (λ i d inside. from_on-bin bin (get_or counts i d) within)
    ∙ sum_by-plus (λ count. one_at (bin_of count) bin) (from_on (bin + 1)) counts

bin_size-last : (counts : List ℕ) → at_least counts last_bin ≡ bin_size counts last_bin
unfolding at_least bin_size
bin_size-last counts = sum_by-same (from_on last_bin) (λ count. one_at (bin_of count) last_bin) counts (λ i d inside. from_on-last (get_or counts i d))

difference_at-is : (counts : List ℕ) (i : ℕ) → i < last_bin → difference_at (at_least_of counts) (i + 1) ≡ bin_size counts (i + 1)
difference_at-is counts i within =
    let here : i + 1 - 1 ≡ i = omega arith in
    let next : i + 1 + 1 - 1 ≡ i + 1 = omega arith in
    let all : number_at (at_least_of counts) (i + 1) ≡ at_least counts (i + 1) =
    ap (λ k. get_or (at_least_of counts) k 0) here ∙ get_or-at_least_of counts i within in
    ⊎_elim
    (λ (inner : i + 1 < last_bin).
    let greater : number_at (at_least_of counts) (i + 1 + 1) ≡ at_least counts (i + 1 + 1) =
    ap (λ k. get_or (at_least_of counts) k 0) next ∙ get_or-at_least_of counts (i + 1) inner in
    omega (arith, all, greater, bin_size-difference counts (i + 1) inner))
    (λ (end : last_bin ≤ i + 1).
    let last : last_bin ≡ i + 1 = omega (arith, end, within) in
    let none = get_or_past (at_least_of counts) (i + 1 + 1 - 1) 0 (omega (arith, end, length-at_least_of counts)) in
    let size = subst (λ bin. at_least counts bin ≡ bin_size counts bin) last (bin_size-last counts) in
    omega (arith, all, none, size))
    (cases_lt (i + 1) last_bin)

length-bins_from : (numbers : List ℕ) → length (bins_from numbers) ≡ last_bin
unfolding bins_from
length-bins_from numbers = length-map-range_with_len (λ bin. difference_at numbers bin) 1 last_bin

get_or-bins_from : (numbers : List ℕ) (i : ℕ) → i < last_bin → get_or (bins_from numbers) i 0 ≡ difference_at numbers (i + 1)
unfolding bins_from
get_or-bins_from numbers i within = get_or-map-range_with_len (λ bin. difference_at numbers bin) 1 last_bin i (i + 1) 0 within (omega arith)

-- a bin of those that follow
pub bin_at-bins_from : (numbers : List ℕ) (bin : ℕ) → 1 ≤ bin → bin ≤ last_bin → difference_at numbers bin ≡ get_or (bins_from numbers) (bin - 1) 0
bin_at-bins_from numbers bin some within =
    let same : bin ≡ bin - 1 + 1 = omega (arith, some) in
    ap (difference_at numbers) same ∙ sym (get_or-bins_from numbers (bin - 1) (omega (arith, some, within)))

-- these are the bins of the counts
pub bins_from-is : (counts : List ℕ) → bins_from (at_least_of counts) ≡ bins_of counts
bins_from-is counts =
    bins_of-from counts (bins_from (at_least_of counts)) (length-bins_from (at_least_of counts))
    (λ i within. get_or-bins_from (at_least_of counts) i within ∙ difference_at-is counts i within)

-- as many sizes, each of its bin, are the bins that follow
pub bins_from-all : (numbers sizes : List ℕ) → length sizes ≡ last_bin → ((i : ℕ) → i < last_bin → get_or sizes i 0 ≡ difference_at numbers (i + 1))
    → sizes ≡ bins_from numbers
bins_from-all numbers sizes long each =
    ext_get_or 0 sizes (bins_from numbers) (long ∙ sym (length-bins_from numbers))
    (λ i within. let small : i < last_bin = omega (arith, within, long) in each i small ∙ sym (get_or-bins_from numbers i small))

-- one more size
pub sizes-more : (f : ℕ → ℕ) (sizes new : List ℕ) (i size : ℕ) → new ≡ sizes ++ size ∷ [] → length sizes ≡ i → size ≡ f i
    → ((k : ℕ) → k < i → get_or sizes k 0 ≡ f k) → (k : ℕ) → k < i + 1 → get_or new k 0 ≡ f k
sizes-more f sizes new i size pushed long is each k below =
    ap (λ xs. get_or xs k 0) pushed ∙ ⊎_elim
    (λ (earlier : k < i). get_or_append_left sizes (size ∷ []) 0 k (omega (arith, earlier, long)) ∙ each k earlier)
    (λ (last : i ≤ k).
    let here : k ≡ length sizes + 0 = omega (arith, last, below, long) in
    let same : i ≡ k = omega (arith, last, below) in
    ap (λ n. get_or (sizes ++ size ∷ []) n 0) here ∙ get_or-append-add sizes (size ∷ []) 0 0 ∙ is ∙ ap f same)
    (cases_lt k i)

-- ---- one more number, and less

pub changed-beyond : (f : ℕ → ℕ) (numbers : List ℕ) (count : ℕ) → last_bin < count → numbers ≡ changed f numbers count
unfolding changed
changed-beyond f numbers count beyond = sym (cond-false (leb count last_bin) _ numbers (grind (arith, nat_tests)))

pub changed-within : (f : ℕ → ℕ) (items numbers : List ℕ) (count number : ℕ) → items ≡ numbers
    → number ≡ get_or items (count - 1) 0 → count ≤ last_bin → set items (count - 1) (f number) ≡ changed f numbers count
unfolding changed
changed-within f items numbers count number same is within =
    ap (λ n. set items (count - 1) (f n)) is ∙ ap (λ xs. set xs (count - 1) (f (get_or xs (count - 1) 0))) same
    ∙ sym (cond-true (leb count last_bin) _ numbers (le-leb count last_bin within))

-- ---- no counts

at_least-nil : (c : ℕ) → at_least [] c ≡ 0
unfolding at_least
at_least-nil c = refl

pub at_least_of-nil : (numbers : List ℕ) (n : ℕ) → n ≡ last_bin → numbers ≡ replicate n 0 → numbers ≡ at_least_of []
at_least_of-nil numbers n all zeros =
    at_least_of-from [] numbers (ap length zeros ∙ length-replicate n 0 ∙ all)
    (λ i within. ap (λ xs. get_or xs i 0) zeros ∙ get_or-replicate n i 0 0 (omega (arith, within, all)) ∙ sym (at_least-nil (i + 1)))

-- counts that weigh the same have the same numbers
pub at_least_of-same : (counts others : List ℕ) → ((h : ℕ → ℕ) → h 0 ≡ 0 → sum_by h counts ≡ sum_by h others) → at_least_of counts ≡ at_least_of others
unfolding at_least
at_least_of-same counts others weigh =
    at_least_of-from others (at_least_of counts) (length-at_least_of counts)
    (λ i within. get_or-at_least_of counts i within ∙ weigh (from_on (i + 1)) (grind (arith, nat_tests)))

-- ---- a count one more, and one less

from_on-more : (c count : ℕ) → from_on c (count + 1) ≡ from_on c count + cond (eqb c (count + 1)) 1 0
from_on-more c count = grind (arith, nat_tests)

at_least-more : (old new : List ℕ) (count c : ℕ) → IsOneMore old new count → at_least new c ≡ at_least old c + cond (eqb c (count + 1)) 1 0
unfolding at_least
at_least-more old new count c more = omega (arith, more (from_on c), from_on-more c count)

-- lists whose numbers differ at one count only: the numbers of the one are those of the other, changed there
at_least_of-changed : (f : ℕ → ℕ) (old new : List ℕ) (count : ℕ) → f (at_least old (count + 1)) ≡ at_least new (count + 1)
    → ((c : ℕ) → (c ≡ count + 1 → ⊥) → at_least old c ≡ at_least new c)
    → changed f (at_least_of old) (count + 1) ≡ at_least_of new
unfolding changed
at_least_of-changed f old new count here elsewhere = ⊎_elim
    (λ (within : count < last_bin).
    let place : count + 1 - 1 ≡ count = omega arith in
    let was = get_or-at_least_of old count within in
    let number = f (get_or (at_least_of old) count 0) in
    cond-true (leb (count + 1) last_bin) _ _ (le-leb (count + 1) last_bin (omega (arith, within)))
    ∙ ap (λ k. set (at_least_of old) k (f (get_or (at_least_of old) k 0))) place
    ∙ at_least_of-from new _ (length-set (at_least_of old) count _ ∙ length-at_least_of old)
    (λ i inside. ⊎_elim
    (λ (same : i ≡ count).
    subst (λ k. get_or (set (at_least_of old) count number) k 0 ≡ at_least new (k + 1)) (sym same)
    (get_or-set_same (at_least_of old) count number 0 (omega (arith, within, length-at_least_of old)) ∙ ap f was ∙ here))
    (λ other.
    get_or-set_other (at_least_of old) count i number 0 other
    ∙ get_or-at_least_of old i inside ∙ elsewhere (i + 1) (λ e. other (omega (arith, e))))
    (cases_eq i count)))
    (λ (past : last_bin ≤ count).
    cond-false (leb (count + 1) last_bin) _ _ (grind (arith, nat_tests))
    ∙ at_least_of-from new (at_least_of old) (length-at_least_of old)
    (λ i inside. get_or-at_least_of old i inside ∙ elsewhere (i + 1) (λ e. omega (arith, e, inside, past))))
    (cases_lt count last_bin)

module _ (old new : List ℕ) (count : ℕ) (more : IsOneMore old new count) where
  -- the number of a count that was just reached
  pub number_at-reached : count + 1 ≤ last_bin → 1 ≤ number_at (at_least_of new) (count + 1)
  number_at-reached within =
      let here : count + 1 - 1 ≡ count = omega arith in
      let is : number_at (at_least_of new) (count + 1) ≡ at_least new (count + 1) =
      ap (λ k. get_or (at_least_of new) k 0) here ∙ get_or-at_least_of new count (omega (arith, within)) in
      let one = one-same (count + 1) (count + 1) refl in
      omega (arith, is, at_least-more old new count (count + 1) more, one)

  pub at_least_of-risen : risen (at_least_of old) (count + 1) ≡ at_least_of new
  at_least_of-risen = at_least_of-changed (λ n. n + 1) old new count
      (omega (arith, at_least-more old new count (count + 1) more, one-same (count + 1) (count + 1) refl))
      (λ c other. omega (arith, at_least-more old new count c more, none-other c (count + 1) other))

  pub at_least_of-fallen : fallen (at_least_of new) (count + 1) ≡ at_least_of old
  at_least_of-fallen = at_least_of-changed (λ n. n - 1) new old count
      (omega (arith, at_least-more old new count (count + 1) more, one-same (count + 1) (count + 1) refl))
      (λ c other. omega (arith, at_least-more old new count c more, none-other c (count + 1) other))
