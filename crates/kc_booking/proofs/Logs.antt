-- The least log with which tables have so many slots together.
use Rattle.std.proofs.Common.{◌≡◌, ℕ, ◌+◌, ◌-◌, ◌*◌, ◌/◌, ◌^◌, ◌<◌, ◌≤◌, ⊎_elim, arith}
use Rattle.std.proofs.lemmas.Bool.{cases_lt}
use Rattle.std.proofs.lemmas.Nat.{div_below, le-div, pow_pos, pow-add}
use Rattle.std.proofs.Math.Nat.{pow-le-pow_right}
use Rattle.kc_booking.specs.Tables.{IsLeastLog}

-- if a size is within so many slots, the last of them is in one of so many parts
enough : (size stripes slots : ℕ) → 1 ≤ stripes → (size - 1) / stripes < slots → size ≤ slots * stripes
enough size stripes slots some below =
    ⊎_elim
    (λ (less : size - 1 < slots * stripes). omega (arith, less))
    (λ (more : slots * stripes ≤ size - 1). let at_least = le-div slots (size - 1) stripes some more in absurd (omega (arith, at_least, below)))
    (cases_lt (size - 1) (slots * stripes))

within : (size stripes slots : ℕ) → 1 ≤ stripes → 1 ≤ slots → size ≤ slots * stripes → (size - 1) / stripes < slots
within size stripes slots some any fits =
    let positive : 1 ≤ slots * stripes = grind arith in
    div_below (size - 1) stripes slots some (omega (arith, positive, fits))

pub IsLeastLog-zero : (size stripes last : ℕ) → 1 ≤ stripes → last ≡ (size - 1) / stripes → last ≡ 0 → IsLeastLog stripes size 0
IsLeastLog-zero size stripes last some is none = record {
  enough = enough size stripes 1 some (omega (arith, is, none));
  least = λ other fits. omega arith;
}

pub IsLeastLog-more : (size stripes last log : ℕ) → 1 ≤ stripes → last ≡ (size - 1) / stripes → 2 ^ log ≤ last → last < 2 * 2 ^ log → IsLeastLog stripes size (log + 1)
IsLeastLog-more size stripes last log some is low high = record {
  enough = let twice : 2 ^ (log + 1) ≡ 2 ^ log * 2 = pow-add 2 log 1 in enough size stripes (2 ^ (log + 1)) some (omega (arith, is, high, twice));
  least = λ other fits.
      let fewer = within size stripes (2 ^ other) some (pow_pos other) fits in
      ⊎_elim
      (λ (less : other < log + 1). let short : 2 ^ other ≤ 2 ^ log = pow-le-pow_right (omega arith) (omega (arith, less)) in absurd (omega (arith, short, fewer, is, low)))
      (λ (h : log + 1 ≤ other). h)
      (cases_lt other (log + 1));
}
