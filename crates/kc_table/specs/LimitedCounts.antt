-- The model of `LimitedCounts`, and when it may return `Full`.
use Rattle.std.specs.Prelude.{◌≡◌, ℕ, ◌≤◌, refl, None}
use Rattle.std.specs.Coded.{Coded, code_by, coded×, coded_ℕ}
use Rattle.std.specs.FinMap.{get, len, code}
use Rattle.kc_table.specs.declared.table_fault.TableFault.{TableFault}
use Rattle.kc_table.specs.declared.table_fault.TableFault.TheVariants.{Full}
use Rattle.kc_table.specs.contracts.table_fault.TableFault.{the_row}
use Rattle.kc_table.specs.Counts.{KeyCounts}

-- the number of bits of its keys, the map, the greatest number of keys, and the error for a new key beyond it
pub record Limited : Type 0 where
  pub bits : ℕ
  pub counts : KeyCounts
  pub limit : ℕ
  pub refusal : TableFault

-- it is coded as the tuple of its fields
abbrev pub limited_code : Coded Limited
limited_code =
    code_by (ℕ × (KeyCounts × (ℕ × TableFault)))
    (coded× coded_ℕ (coded× (code coded_ℕ coded_ℕ) (coded× coded_ℕ the_row.coded)))
    (λ t. (t.bits, (t.counts, (t.limit, t.refusal))))
    (λ p. record { bits = p.0; counts = p.1.0; limit = p.1.1.0; refusal = p.1.1.1 }) (λ _. refl)

-- the key is new, and the map has as many keys as the table takes
abbrev pub HasReachedLimit : Limited → KeyCounts → ℕ → Type 0
HasReachedLimit table counts key = (table.limit ≤ len counts) × (get counts key ≡ None)

-- the same, and the chosen error is `Full`
abbrev pub IsAtLimit : Limited → KeyCounts → ℕ → Type 0
IsAtLimit table counts key = (table.refusal ≡ Full) × HasReachedLimit table counts key
