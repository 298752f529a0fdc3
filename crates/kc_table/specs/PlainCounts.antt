-- The model of `PlainCounts`.
use Rattle.std.specs.Prelude.{refl, ℕ}
use Rattle.std.specs.Coded.{Coded, code_by, coded×, coded_ℕ}
use Rattle.std.specs.FinMap.{code}
use Rattle.kc_table.specs.Counts.{KeyCounts}

-- the number of bits of its keys, and the map
pub record Plain : Type 0 where
  pub bits : ℕ
  pub counts : KeyCounts

-- it is coded as the pair of its fields
abbrev pub plain_code : Coded Plain
plain_code =
    code_by (ℕ × KeyCounts) (coded× coded_ℕ (code coded_ℕ coded_ℕ))
    (λ t. (t.bits, t.counts)) (λ p. record { bits = p.0; counts = p.1 }) (λ _. refl)
