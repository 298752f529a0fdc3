-- The parts of a table.
use Rattle.std.proofs.Common.{◌≡◌, ℕ, ◌-◌, ◌*◌, ◌/◌, ◌%◌, ◌^◌, ◌+◌, ◌<◌, ◌≤◌, bit_and, ap, sym, ◌∙◌, arith, ⊎_elim, mod-lt}
use Rattle.std.proofs.Math.Nat.{div-lt_iff_lt-mul}
use Rattle.std.proofs.Math.Pow.{pow_mono}
use Rattle.std.proofs.lemmas.Nat.{pow_pos, pow-add, and_mask}
use Rattle.std.proofs.lemmas.Bool.{cases_lt}
use Rattle.kc_table.specs.Reprobing.{home_part}
use Rattle.kc_table.specs.Sizes.{most_parts}

-- there are at most 1,024 of them
pub home_part-few : (log key : ℕ) → home_part log key < most_parts
home_part-few log key = (div-lt_iff_lt-mul {k = 2 ^ (log - 10)} {x = key % 2 ^ log} {y = 1024} (pow_pos (log - 10))).1 (⊎_elim
    (λ (small : log < 10).
    let none : log - 10 ≡ 0 = omega arith in
    let whole : 1024 * 2 ^ (log - 10) ≡ 1024 = ap (λ n. 1024 * 2 ^ n) none in
    let less : 2 ^ log ≤ 2 ^ 10 = pow_mono {i = log} {j = 10} (omega arith) in
    omega (arith, whole, less, mod-lt key (pow_pos log)))
    (λ (large : 10 ≤ log).
    let split : 10 + (log - 10) ≡ log = omega arith in
    let whole : 2 ^ log ≡ 1024 * 2 ^ (log - 10) = ap (λ n. 2 ^ n) (sym split) ∙ pow-add 2 10 (log - 10) in
    omega (arith, whole, mod-lt key (pow_pos log)))
    (cases_lt log 10))

-- the part as the program has it
pub home_part-is : (log key mask : ℕ) → mask ≡ 2 ^ log - 1 → bit_and key mask / 2 ^ (log - 10) ≡ home_part log key
home_part-is log key mask is = ap (λ n. n / 2 ^ (log - 10)) (ap (bit_and key) is ∙ and_mask key log)

-- the part of a table of 2 ^ log slots, by the number of its slots and the bits that are left out
pub home_part-told : (log key size shift : ℕ) → size ≡ 2 ^ log → shift ≡ log - 10 → bit_and key (size - 1) / 2 ^ shift ≡ home_part log key
home_part-told log key size shift sized few =
    ap (λ s. bit_and key (size - 1) / 2 ^ s) few ∙ home_part-is log key (size - 1) (ap (λ n. n - 1) sized)

pub home_part-below : (log key size shift : ℕ) → size ≡ 2 ^ log → shift ≡ log - 10 → bit_and key (size - 1) / 2 ^ shift < most_parts
home_part-below log key size shift sized few = rw (home_part-told log key size shift sized few) (home_part-few log key)
