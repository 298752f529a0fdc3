-- Places and keys: a slot, a number of reprobes and a remainder give one key, and a key's places differ.
use Rattle.std.proofs.Common.{◌≡◌, ◌∙◌, ℕ, zero, suc, ◌+◌, ◌-◌, ◌*◌, ◌/◌, ◌%◌, ◌^◌, ◌<◌, ◌≤◌, Bool, true, false, ◌&&◌}
use Rattle.std.proofs.Common.{nat_eq, min, unwrap_or, refl, sym, ap, arith, mod-lt, mod-eq_of_lt, suc-mul, add-zero}
use Rattle.std.proofs.Common.{inl, inr}
use Rattle.std.proofs.Math.Nat.{mod-add-mod, add-mul-mod_self_left, add-mul-div_right, mod-mod, min-le_left}
use Rattle.std.specs.List.{find, range_with_len}
use Rattle.std.proofs.Math.Pow.{mod-mod-pow}
use Rattle.std.proofs.lemmas.Nat.{div-mul-add, mod-mul-add, div-add-mod', pow_pos}
use Rattle.std.proofs.lemmas.Bool.{eqb-true, cases_lt}
use Rattle.kc_table.specs.Reprobing.{triangle, place, reprobe_of, tag_of}
use Rattle.kc_table.specs.QuotientTable.{different_places}
use Rattle.kc_table.specs.Slot.{key_in}

pub triangle-suc : (i : ℕ) → triangle (i + 1) ≡ triangle i + (i + 1)
triangle-suc i =
    let sum : (i + 1) * (i + 1 + 1) ≡ i * (i + 1) + (i + 1) * 2 = grind arith in
    ap (λ n. n / 2) sum ∙ add-mul-div_right (i * (i + 1)) (i + 1) {z = 2} (omega arith)

-- the places are walked by growing steps
pub place_step : (key i log : ℕ) → (place key (i - 1) log + i) % 2 ^ log ≡ place key i log
place_step key zero log =
    mod-add-mod (key % 2 ^ log + triangle 0) (2 ^ log) 0 ∙ ap (λ n. n % 2 ^ log) (add-zero (key % 2 ^ log + triangle 0))
place_step key (suc i) log =
    let before : suc i - 1 ≡ i = omega arith in
    let next : triangle (suc i) ≡ triangle i + suc i = ap triangle (omega arith) ∙ triangle-suc i ∙ omega arith in
    let sum : key % 2 ^ log + triangle i + suc i ≡ key % 2 ^ log + triangle (suc i) = omega (arith, next) in
    ap (λ n. (place key n log + suc i) % 2 ^ log) before ∙ mod-add-mod (key % 2 ^ log + triangle i) (2 ^ log) (suc i)
    ∙ ap (λ n. n % 2 ^ log) sum

pub place-lt : (key i log : ℕ) → place key i log < 2 ^ log
place-lt key i log = mod-lt _ (pow_pos log)

round : (m t : ℕ) → 0 < m → (m - 1) * t + t ≡ m * t
round zero t pos = absurd (omega arith)
round (suc k) t pos = let less : suc k - 1 ≡ k = omega arith in ap (λ n. n * t + t) less ∙ sym (suc-mul k t)

-- the home found again from the place
home_back : (h t m : ℕ) → 0 < m → h < m → ((h + t) % m + (m - 1) * t) % m ≡ h
home_back h t m pos below =
    let sum : h + t + (m - 1) * t ≡ h + m * t = omega (arith, round m t pos) in
    mod-add-mod (h + t) m ((m - 1) * t) ∙ ap (λ n. n % m) sum ∙ add-mul-mod_self_left h m t ∙ mod-eq_of_lt below

place_back : (s t m : ℕ) → 0 < m → s < m → ((s + (m - 1) * t) % m + t) % m ≡ s
place_back s t m pos below =
    let sum : s + (m - 1) * t + t ≡ s + m * t = omega (arith, round m t pos) in
    mod-add-mod (s + (m - 1) * t) m t ∙ ap (λ n. n % m) sum ∙ add-mul-mod_self_left s m t ∙ mod-eq_of_lt below

-- the key of a slot has that slot for its place
pub place-key_in : (log s tag : ℕ) → s < 2 ^ log → place (key_in log s tag) (reprobe_of tag) log ≡ s
place-key_in log s tag below =
    let t = triangle (reprobe_of tag) in
    ap (λ h. (h + t) % 2 ^ log)
    (mod-mul-add (tag / 64) (2 ^ log) ((s + (2 ^ log - 1) * t) % 2 ^ log) (mod-lt _ (pow_pos log)))
    ∙ place_back s t (2 ^ log) (pow_pos log) below

pub tag_of-mod : (log key i : ℕ) → i < 63 → tag_of log key i % 64 ≡ i + 1
tag_of-mod log key i small = mod-mul-add (key / 2 ^ log) 64 (i + 1) (omega arith)

pub tag_of-div : (log key i : ℕ) → i < 63 → tag_of log key i / 64 ≡ key / 2 ^ log
tag_of-div log key i small = div-mul-add (key / 2 ^ log) 64 (i + 1) (omega arith)

pub reprobe_of-tag_of : (log key i : ℕ) → i < 63 → reprobe_of (tag_of log key i) ≡ i
reprobe_of-tag_of log key i small = ap (λ n. n - 1) (tag_of-mod log key i small) ∙ omega arith

-- a key is found again from its place and its tag
pub key_in-tag_of : (key i log : ℕ) → i < 63 → key_in log (place key i log) (tag_of log key i) ≡ key
key_in-tag_of key i log small =
    let p = place key i log in
    ap (λ r. r * 2 ^ log + (p + (2 ^ log - 1) * triangle (reprobe_of (tag_of log key i))) % 2 ^ log)
    (tag_of-div log key i small)
    ∙ ap (λ n. key / 2 ^ log * 2 ^ log + (p + (2 ^ log - 1) * triangle n) % 2 ^ log) (reprobe_of-tag_of log key i small)
    ∙ ap (λ h. key / 2 ^ log * 2 ^ log + h)
    (home_back (key % 2 ^ log) (triangle i) (2 ^ log) (pow_pos log) (mod-lt _ (pow_pos log)))
    ∙ div-add-mod' key (2 ^ log)

pub tag_of-key_in : (log s tag : ℕ) → 1 ≤ tag % 64 → tag_of log (key_in log s tag) (reprobe_of tag) ≡ tag
tag_of-key_in log s tag probed =
    ap (λ r. r * 64 + (reprobe_of tag + 1))
    (div-mul-add (tag / 64) (2 ^ log) ((s + (2 ^ log - 1) * triangle (reprobe_of tag)) % 2 ^ log)
    (mod-lt _ (pow_pos log)))
    ∙ omega (arith, div-add-mod' tag 64)

-- for which i below 64 the numbers up to i add up to t, modulo m
turn : ℕ → ℕ → ℕ
turn m t = unwrap_or (find (λ i. nat_eq (triangle i % m) t) (range_with_len 0 64)) 0

and_left : (a b : Bool) → a && b ≡ true → a ≡ true
and_left true b both = refl
and_left false b both = both

and_right : (a b : Bool) → a && b ≡ true → b ≡ true
and_right true b both = both
and_right false b both = absurd (let never : false ≡ true = both in cc)

all_below : (ℕ → Bool) → ℕ → Bool
all_below p zero = true
all_below p (suc n) = p n && all_below p n

from_all_below : (p : ℕ → Bool) (n : ℕ) → all_below p n ≡ true → (i : ℕ) → i < n → p i ≡ true
unfolding all_below
from_all_below p zero all i below = absurd (omega arith)
from_all_below p (suc n) all i below =
    elim (cases_lt i n) [
      | inl under ↦ from_all_below p n (and_right (p n) (all_below p n) all) i under
      | inr past ↦ let top : i ≡ n = omega arith in ap p top ∙ and_left (p n) (all_below p n) all
    ]

-- the first n triangles differ, modulo m
triangles_differ : (m n : ℕ) → all_below (λ i. nat_eq (turn m (triangle i % m)) i) n ≡ true
    → (i j : ℕ) → i < n → j < n → triangle i % m ≡ triangle j % m → i ≡ j
triangles_differ m n all i j si sj same =
    let at : (i : ℕ) → i < n → turn m (triangle i % m) ≡ i =
    λ i small. eqb-true _ _ (from_all_below (λ i. nat_eq (turn m (triangle i % m)) i) n all i small) in
    sym (at i si) ∙ ap (turn m) same ∙ at j sj

all_turned : (log : ℕ) → log ≤ 6
    → all_below (λ i. nat_eq (turn (2 ^ log) (triangle i % 2 ^ log)) i) (min 63 (2 ^ log)) ≡ true
unfolding all_below turn
all_turned zero few = refl
all_turned (suc zero) few = refl
all_turned (suc (suc zero)) few = refl
all_turned (suc (suc (suc zero))) few = refl
all_turned (suc (suc (suc (suc zero)))) few = refl
all_turned (suc (suc (suc (suc (suc zero))))) few = refl
all_turned (suc (suc (suc (suc (suc (suc zero)))))) few = refl
all_turned (suc (suc (suc (suc (suc (suc (suc n))))))) few = absurd (omega arith)

cancelled : (m h a b : ℕ) → 0 < m → (h + a) % m ≡ (h + b) % m → a % m ≡ b % m
cancelled m h a b pos same =
    let back : (x : ℕ) → ((h + x) % m + (m - 1) * h) % m ≡ x % m =
    λ x.
    let sum : h + x + (m - 1) * h ≡ x + m * h = omega (arith, round m h pos) in
    mod-add-mod (h + x) m ((m - 1) * h) ∙ ap (λ n. n % m) sum ∙ add-mul-mod_self_left x m h in
    sym (back a) ∙ ap (λ n. (n + (m - 1) * h) % m) same ∙ back b

-- two places that differ in a table of 2 ^ l slots, no larger than one of 64 or of 2 ^ log
record AreSpread (l log i j : ℕ) : Type 0 where
  few : l ≤ 6
  narrow : l ≤ log
  first : i < min 63 (2 ^ l)
  second : j < min 63 (2 ^ l)

-- places differ if they do in a table of 2 ^ l slots
differ_by : (key i j log l : ℕ) → AreSpread l log i j → place key i log ≡ place key j log → i ≡ j
differ_by key i j log l spread same =
    let narrow : l ≤ log = spread.narrow in
    let split : log - l + l ≡ log = omega arith in
    let low : (n : ℕ) → n % 2 ^ log % 2 ^ l ≡ n % 2 ^ l =
    λ n. ap (λ k. n % 2 ^ k % 2 ^ l) (sym split) ∙ mod-mod-pow n (log - l) l in
    let h = key % 2 ^ log in
    let lows : (h + triangle i) % 2 ^ l ≡ (h + triangle j) % 2 ^ l =
    sym (low (h + triangle i)) ∙ ap (λ n. n % 2 ^ l) same ∙ low (h + triangle j) in
    triangles_differ (2 ^ l) (min 63 (2 ^ l)) (all_turned l spread.few) i j spread.first spread.second
    (cancelled (2 ^ l) h (triangle i) (triangle j) (pow_pos l) lows)

-- the places of a key differ, as many as there are slots for
pub places_differ : (key i j log : ℕ) → i < different_places log → j < different_places log
    → place key i log ≡ place key j log → i ≡ j
places_differ key i j log si sj same =
    let most : different_places log ≤ 63 = min-le_left 63 (2 ^ log) in
    elim (cases_lt 6 log) [
      | inl large ↦ differ_by key i j log 6
          (record { few = omega arith; narrow = omega arith; first = omega arith; second = omega arith }) same
      | inr few ↦ differ_by key i j log log (record { few = few; narrow = omega arith; first = si; second = sj }) same
    ]

-- a key below the size of the table is its own home
pub place-home : (key log : ℕ) → key < 2 ^ log → place key 0 log ≡ key
place-home key log below = ap (λ n. n % 2 ^ log) (add-zero (key % 2 ^ log)) ∙ mod-mod key (2 ^ log) ∙ mod-eq_of_lt below
