-- A table with its numbers and total: nothing stored, a count one more, a count one less.
use Rattle.std.proofs.Common.{◌≡◌, ◌≢◌, ℕ, zero, suc, ◌+◌, ◌-◌, ◌<◌, ◌≤◌, ◌^◌, eqb, List, [], ◌∷◌, length, get_or, take, cond, sum, sum_by, count_by, Contains, refl, ap, sym, ◌∙◌, subst, arith, ⊎_elim, zero-add, unwrap_or}
use Rattle.std.specs.List.{range_with_len}
use Rattle.std.specs.FinMap.{empty}
use Rattle.std.proofs.lemmas.Bool.{cases_eq, eq-eqb, ne_eqb}
use Rattle.std.proofs.lemmas.List.FromFn.{length-map-range_with_len, length-range_with_len, get_or-range_with_len}
use Rattle.std.proofs.lemmas.List.Sums.{fold_more, count_by_more_yes, count_by_more_no, sum_by-cons, sum_by-take-le}
use Rattle.std.proofs.Math.Pow.{pow_mono}
use Rattle.kc_lemmas.proofs.Lists.{map-same, All-range}
use Rattle.kc_lemmas.proofs.Sums.{sum_by-map, sum_by-same, sum_by-zeros, sum_by-range_more, term-le-sum_by}
use Rattle.kc_table.specs.Counts.{KeyCounts, count_at, added, reduced}
use Rattle.kc_table.proofs.KeyCounts.{get-insert_same, get-insert_other, count_at-empty, count_at-added_same, count_at-added_other}
use Rattle.kc_tally.specs.Histogram.{last_bin, bins_of}
use Rattle.kc_tally.proofs.Bins.{IsOneMore}
use Rattle.kc_booking.specs.AtLeast.{at_least_of, number_at, bins_from, risen, fallen}
use Rattle.kc_booking.specs.Counted.{KeepsLimits, counts_of, IsCounted, IsTold, all_added}
use Rattle.kc_booking.proofs.AtLeastLemmas.{one-same, none-other, number_at-most, number_at-reached, bins_from-is, at_least_of-same, at_least_of-risen, at_least_of-fallen}

-- ---- a count one less

count_at-reduced_same : (m : KeyCounts) (k : ℕ) → count_at (reduced m k) k ≡ count_at m k - 1
count_at-reduced_same m k = ap (λ o. unwrap_or o 0) (get-insert_same m k (count_at m k - 1))

count_at-reduced_other : (m : KeyCounts) (k q : ℕ) → q ≢ k → count_at (reduced m k) q ≡ count_at m q
count_at-reduced_other m k q apart = ap (λ o. unwrap_or o 0) (get-insert_other m k (count_at m k - 1) q apart)

-- ---- the counts of all keys

pub counts_of-same : (bits : ℕ) (m n : KeyCounts) → ((q : ℕ) → count_at n q ≡ count_at m q) → counts_of bits n ≡ counts_of bits m
counts_of-same bits m n same =
    map-same (count_at n) (count_at m) (range_with_len 0 (2 ^ bits)) (All-range (λ q. count_at n q ≡ count_at m q) 0 (2 ^ bits) (λ q _ _. same q))

-- a function of the numbers below n that changes at one of them, however its values are weighed
changed_at : (h f g : ℕ → ℕ) (q n : ℕ) → ((x : ℕ) → x ≢ q → g x ≡ f x) → q < n
    → sum_by (λ x. h (g x)) (range_with_len 0 n) + h (f q) ≡ sum_by (λ x. h (f x)) (range_with_len 0 n) + h (g q)
changed_at h f g q zero kept below = absurd (omega arith)
changed_at h f g q (suc n) kept below =
    let new = sum_by-range_more (λ x. h (g x)) n in
    let old = sum_by-range_more (λ x. h (f x)) n in
    let more : n + 1 ≡ suc n = omega arith in
    subst (λ m. sum_by (λ x. h (g x)) (range_with_len 0 m) + h (f q) ≡ sum_by (λ x. h (f x)) (range_with_len 0 m) + h (g q)) more
    (⊎_elim
    (λ (here : q ≡ n).
    let front : sum_by (λ x. h (g x)) (range_with_len 0 n) ≡ sum_by (λ x. h (f x)) (range_with_len 0 n) =
    sum_by-same (λ x. h (g x)) (λ x. h (f x)) (range_with_len 0 n)
    (All-range (λ x. h (g x) ≡ h (f x)) 0 n (λ x _ small. let apart : x ≢ q = omega arith in ap h (kept x apart))) in
    let first = ap (λ x. h (g x)) here in
    let second = ap (λ x. h (f x)) here in
    omega arith)
    (λ (apart : q ≢ n).
    let front = changed_at h f g q n kept (omega arith) in
    let same : h (g n) ≡ h (f n) = ap h (kept n (λ e. apart (sym e))) in
    omega arith)
    (cases_eq q n))

-- a key's count one more, if the others stay, is one of the counts one more
IsOneMore-key : (bits : ℕ) (m n : KeyCounts) (q count : ℕ) → ((x : ℕ) → x ≢ q → count_at n x ≡ count_at m x) → count_at m q ≡ count
    → count_at n q ≡ count + 1 → q < 2 ^ bits → IsOneMore (counts_of bits m) (counts_of bits n) count
IsOneMore-key bits m n q count kept was is below h =
    let changed = changed_at h (count_at m) (count_at n) q (2 ^ bits) kept below in
    let new = sum_by-map h (count_at n) (range_with_len 0 (2 ^ bits)) in
    let old = sum_by-map h (count_at m) (range_with_len 0 (2 ^ bits)) in
    omega (arith, changed, new, old, ap h was, ap h is)

IsOneMore-added : (bits : ℕ) (m : KeyCounts) (q : ℕ) → q < 2 ^ bits → IsOneMore (counts_of bits m) (counts_of bits (added m q)) (count_at m q)
IsOneMore-added bits m q below =
    IsOneMore-key bits m (added m q) q (count_at m q) (λ x apart. count_at-added_other m q x apart) refl (count_at-added_same m q) below

IsOneMore-reduced : (bits : ℕ) (m : KeyCounts) (q : ℕ) → q < 2 ^ bits → 1 ≤ count_at m q
    → IsOneMore (counts_of bits (reduced m q)) (counts_of bits m) (count_at m q - 1)
IsOneMore-reduced bits m q below some =
    IsOneMore-key bits (reduced m q) m q (count_at m q - 1) (λ x apart. sym (count_at-reduced_other m q x apart)) (count_at-reduced_same m q) (omega (arith, some)) below

-- ---- what is kept

-- the numbers and the total are those of the counts
IsTold-from : (bits : ℕ) (m : KeyCounts) (numbers : List ℕ) (total : ℕ) → bits ≤ 62 → numbers ≡ at_least_of (counts_of bits m) → total ≡ sum (counts_of bits m)
    → total ≤ 2 ^ 62 → IsTold bits m numbers total
IsTold-from bits m numbers total narrow are sums small = record {
  numbers_are = are;
  counted = record {
    bits_at_most = narrow;
    bins_are = ap bins_from are ∙ bins_from-is (counts_of bits m);
    total_is = sums;
    total_at_most = small;
  };
}

pub IsTold-empty : (bits : ℕ) (m : KeyCounts) (numbers : List ℕ) → bits ≤ 62 → m ≡ empty → numbers ≡ at_least_of [] → IsTold bits m numbers 0
IsTold-empty bits m numbers narrow none nothing =
    IsTold-from bits m numbers 0 narrow (nothing ∙ at_least_of-same [] (counts_of bits m) (λ h zero_weighs. sym (weighs h zero_weighs)))
    (sym (weighs (λ c. c) refl)) (omega arith)
  where
    weighs : (h : ℕ → ℕ) → h 0 ≡ 0 → sum_by h (counts_of bits m) ≡ 0
    weighs h zero_weighs =
        sum_by-map h (count_at m) (range_with_len 0 (2 ^ bits))
        ∙ sum_by-zeros (λ q. h (count_at m q)) (range_with_len 0 (2 ^ bits))
        (All-range (λ q. h (count_at m q) ≡ 0) 0 (2 ^ bits) (λ q _ _. ap h (ap (λ (n : KeyCounts). count_at n q) none ∙ count_at-empty q) ∙ zero_weighs))

-- the same counts have the same bins and total
pub counted-same : {bits now : ℕ} {m n : KeyCounts} {bins others : List ℕ} {total other : ℕ} → now ≡ bits
    → ((q : ℕ) → count_at n q ≡ count_at m q) → IsCounted bits m bins total → IsCounted now n others other
    → (others ≡ bins) × (other ≡ total)
counted-same {bits} {now} {m} {n} same_bits same old new =
    let is : counts_of now n ≡ counts_of bits m = ap (λ b. counts_of b n) same_bits ∙ counts_of-same bits m n same in
    (new.bins_are ∙ ap bins_of is ∙ sym old.bins_are, new.total_is ∙ ap sum is ∙ sym old.total_is)

-- each count is at most the total
pub count_at-at_most : (bits : ℕ) (m : KeyCounts) (bins : List ℕ) (total q : ℕ) → IsCounted bits m bins total → q < 2 ^ bits → count_at m q ≤ total
count_at-at_most bits m bins total q counted below =
    let stands : Contains (range_with_len 0 (2 ^ bits)) q =
    (q, rw length-range_with_len below, get_or-range_with_len 0 (2 ^ bits) q q below ∙ zero-add q) in
    let most = term-le-sum_by (count_at m) (range_with_len 0 (2 ^ bits)) q stands in
    let whole = sum_by-map (λ c. c) (count_at m) (range_with_len 0 (2 ^ bits)) in
    let is = counted.total_is in
    omega arith

-- ---- a count one more

-- a key of a table with its numbers
pub record IsToldOf (bits : ℕ) (m : KeyCounts) (numbers : List ℕ) (total q : ℕ) : Type 0 where
  pub told : IsTold bits m numbers total
  pub below : q < 2 ^ bits

module _ (bits : ℕ) (m : KeyCounts) (numbers : List ℕ) (total q count : ℕ) (key : IsToldOf bits m numbers total q) where
  pub raise-fits : 1 ≤ count → number_at numbers count + 1 < 2 ^ 64
  raise-fits some =
      let long = length-map-range_with_len (count_at m) 0 (2 ^ bits) in
      let few : 2 ^ bits ≤ 2 ^ 62 = pow_mono {i = bits} {j = 62} key.told.counted.bits_at_most in
      rw key.told.numbers_are (omega (arith, number_at-most (counts_of bits m) count some, long, few))

  pub IsTold-added : count ≡ count_at m q + 1 → total < 2 ^ 62 → IsTold bits (added m q) (risen numbers count) (total + 1)
  IsTold-added is room =
      let more = IsOneMore-added bits m q key.below in
      let before = key.told.counted.total_is in
      IsTold-from bits (added m q) (risen numbers count) (total + 1) key.told.counted.bits_at_most
      (ap (risen numbers) is ∙ ap (λ ns. risen ns (count_at m q + 1)) key.told.numbers_are
      ∙ at_least_of-risen (counts_of bits m) (counts_of bits (added m q)) (count_at m q) more)
      (let weighs = more (λ c. c) in omega (arith, weighs, before)) (omega (arith, room))

  -- and one less
  pub lower-there : count ≡ count_at m q → 1 ≤ count → count ≤ last_bin → 1 ≤ number_at numbers count
  lower-there is some within =
      let more = IsOneMore-reduced bits m q key.below (omega (arith, is, some)) in
      let same : count_at m q - 1 + 1 ≡ count = omega (arith, is, some) in
      rw key.told.numbers_are
      (subst (λ n. 1 ≤ number_at (at_least_of (counts_of bits m)) n) same
      (number_at-reached (counts_of bits (reduced m q)) (counts_of bits m) (count_at m q - 1) more (omega (arith, same, within))))

  pub total-some : count ≡ count_at m q → 1 ≤ count → 1 ≤ total
  total-some is some = omega (arith, is, some, count_at-at_most bits m (bins_from numbers) total q key.told.counted key.below)

  pub IsTold-reduced : count ≡ count_at m q → 1 ≤ count → IsTold bits (reduced m q) (fallen numbers count) (total - 1)
  IsTold-reduced is some =
      let more = IsOneMore-reduced bits m q key.below (omega (arith, is, some)) in
      let before = key.told.counted.total_is in
      let same : count ≡ count_at m q - 1 + 1 = omega (arith, is, some) in
      IsTold-from bits (reduced m q) (fallen numbers count) (total - 1) key.told.counted.bits_at_most
      (ap (fallen numbers) same ∙ ap (λ ns. fallen ns (count_at m q - 1 + 1)) key.told.numbers_are
      ∙ at_least_of-fallen (counts_of bits (reduced m q)) (counts_of bits m) (count_at m q - 1) more)
      (let weighs = more (λ c. c) in omega (arith, weighs, before)) (omega (arith, key.told.counted.total_at_most))

-- ---- what no call changes

pub KeepsLimits-same : {C : Type 0} (bits : C → ℕ) (full : C → KeyCounts → ℕ → Type 0) (table : C) → KeepsLimits bits full table table
KeepsLimits-same bits full table = record { same_bits = refl; same_limits = λ m q. (λ h. h, λ h. h) }

pub KeepsLimits-then : {C : Type 0} (bits : C → ℕ) (full : C → KeyCounts → ℕ → Type 0) (old table new : C) → KeepsLimits bits full old table → KeepsLimits bits full table new → KeepsLimits bits full old new
KeepsLimits-then bits full old table new first second = record {
  same_bits = second.same_bits ∙ first.same_bits;
  same_limits = λ m q. (λ h. (first.same_limits m q).0 ((second.same_limits m q).0 h), λ h. (second.same_limits m q).1 ((first.same_limits m q).1 h));
}

-- ---- keys counted one after another, and taken back

pub all_added-more : (m : KeyCounts) (keys : List ℕ) (i d : ℕ) → i < length keys → all_added m (take (i + 1) keys) ≡ added (all_added m (take i keys)) (get_or keys i d)
all_added-more m keys i d within = fold_more added m keys i d within

-- each key's count grows by its occurrences among the keys
pub count_at-all_added : (keys : List ℕ) (m : KeyCounts) (q : ℕ) → count_at (all_added m keys) q ≡ count_at m q + count_by (λ key. eqb key q) keys
count_at-all_added [] m q = omega arith
count_at-all_added (key ∷ keys) m q =
    let later = count_at-all_added keys (added m key) q in
    let first = sum_by-cons (λ k. cond (eqb k q) 1 0) key keys in
    ⊎_elim
    (λ (here : q ≡ key).
    let one = one-same key q (sym here) in
    let more : count_at (added m key) q ≡ count_at m q + 1 =
    ap (count_at (added m key)) here ∙ count_at-added_same m key ∙ ap (λ k. count_at m k + 1) (sym here) in
    omega (arith, later, first, one, more))
    (λ (apart : q ≢ key).
    let none = none-other key q (λ e. apart (sym e)) in
    let same = count_at-added_other m key q apart in
    omega (arith, later, first, none, same))
    (cases_eq q key)

-- the counts from which the keys before i were taken
pub record AreTakenTo (old now : KeyCounts) (keys : List ℕ) (i : ℕ) : Type 0 where
  pub counts : (q : ℕ) → count_at now q + count_by (λ key. eqb key q) (take i keys) ≡ count_at old q

module _ (old now : KeyCounts) (keys : List ℕ) (i : ℕ) (within : i < length keys) (so_far : AreTakenTo old now keys i) where
  -- the next key was counted
  pub taken-some : ((q : ℕ) → count_by (λ key. eqb key q) keys ≤ count_at old q) → 1 ≤ count_at now (get_or keys i 0)
  taken-some there =
      let q = get_or keys i 0 in
      let more = count_by_more_yes (λ key. eqb key q) keys i 0 within (eq-eqb q q refl) in
      let whole = sum_by-take-le (λ key. cond (eqb key q) 1 0) keys (i + 1) in
      omega (arith, more, whole, there q, so_far.counts q)

  pub AreTakenTo-more : 1 ≤ count_at now (get_or keys i 0) → AreTakenTo old (reduced now (get_or keys i 0)) keys (i + 1)
  AreTakenTo-more some = record {
    counts = λ q. ⊎_elim
        (λ (here : q ≡ get_or keys i 0).
        let more = count_by_more_yes (λ key. eqb key q) keys i 0 within (eq-eqb (get_or keys i 0) q (sym here)) in
        let one : count_at (reduced now (get_or keys i 0)) q ≡ count_at now q - 1 =
        ap (count_at (reduced now (get_or keys i 0))) here ∙ count_at-reduced_same now (get_or keys i 0) ∙ ap (λ k. count_at now k - 1) (sym here) in
        let was : 1 ≤ count_at now q = subst (λ k. 1 ≤ count_at now k) (sym here) some in
        omega (arith, more, one, was, so_far.counts q))
        (λ (apart : q ≢ get_or keys i 0).
        let more = count_by_more_no (λ key. eqb key q) keys i 0 within (ne_eqb (get_or keys i 0) q (λ e. apart (sym e))) in
        let same = count_at-reduced_other now (get_or keys i 0) q apart in
        omega (arith, more, same, so_far.counts q))
        (cases_eq q (get_or keys i 0));
  }
