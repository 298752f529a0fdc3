-- The sizes at which the quotient tables of a count begin.
-- Source: this project's own; slots in powers of two, Marçais and Kingsford 2011.
use Rattle.std.specs.Prelude.{◌≡◌, ℕ, ◌*◌, ◌^◌, ◌≤◌, min, max}
use Rattle.kc_table.specs.Sizes.{least_log, most_log}

-- the least log at which `stripes` tables, of 2 ^ log slots each, have at least `size` slots together
pub record IsLeastLog (stripes size log : ℕ) : Type 0 where
  pub enough : size ≤ 2 ^ log * stripes
  pub least : (other : ℕ) → size ≤ 2 ^ other * stripes → log ≤ other

-- the log, moved into the range in which a table for keys of so many bits may begin
abbrev pub moved_into_range : ℕ → ℕ → ℕ
moved_into_range bits log = max (min least_log bits) (min (min most_log bits) log)

-- the log at which the tables of so many stripes begin if they should have `size` slots together
abbrev pub IsStartLog : ℕ → ℕ → ℕ → ℕ → Type 0
IsStartLog stripes size bits log = (least : ℕ) × IsLeastLog stripes size least × (log ≡ moved_into_range bits least)
