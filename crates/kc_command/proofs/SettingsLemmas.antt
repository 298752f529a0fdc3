-- Numbers of stripes, lowered to the number of words.
use Rattle.std.proofs.Common.{◌≡◌, ℕ, ◌*◌, ◌%◌, ◌^◌, ◌<◌, ◌≤◌, ◌⊎◌, inl, inr, sym, ◌∙◌, subst, arith}
use Rattle.std.proofs.Math.Nat.{min-eq_left, min-eq_right, min-le_right}
use Rattle.std.proofs.lemmas.Bool.{cases_lt}
use Rattle.std.proofs.lemmas.Nat.{one_shl}
use Rattle.kc_kmer.proofs.Letters.{pow-four}
use Rattle.kc_command.specs.Settings.{AreStripes, lowered}

-- they are still a power of two
pub lowered_stripes : (k stripes : ℕ) → AreStripes stripes → AreStripes (lowered k stripes)
lowered_stripes k stripes are = pick (cases_lt stripes (4 ^ k)) where
  pick : (stripes < 4 ^ k) ⊎ (4 ^ k ≤ stripes) → AreStripes (lowered k stripes)
  pick (inl below) = subst AreStripes (sym (min-eq_left {n = stripes} {m = 4 ^ k} (omega (arith, below)))) are
  pick (inr above) =
      subst AreStripes (sym (min-eq_right {n = 4 ^ k} {m = stripes} above))
      (record { power = (2 * k, pow-four k); at_most = omega (arith, above, are.at_most) })

pub lowered-few : (k stripes : ℕ) → lowered k stripes ≤ 4 ^ k
lowered-few k stripes = min-le_right stripes (4 ^ k)

-- how many words there are, as the code has it
pub shifted : (k : ℕ) → k ≤ 31 → (1 * 2 ^ (2 * k)) % 2 ^ 64 ≡ 4 ^ k
shifted k few = one_shl (2 * k) 64 (omega (arith, few)) ∙ sym (pow-four k)
