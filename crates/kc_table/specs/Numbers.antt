-- A list of numbers of 32 or of 64 bits each.
use Rattle.std.specs.Prelude.{ℕ, List, vec_capacity}
use Rattle.kc_table.specs.declared.number_rows.Numbers.{Numbers}
use Rattle.kc_table.specs.declared.number_rows.Numbers.TheVariants.{Narrow, Wide}

abbrev pub width_of : Numbers → ℕ
width_of (Narrow numbers) = 32
width_of (Wide numbers) = 64

abbrev pub numbers_in : Numbers → List ℕ
numbers_in (Narrow numbers) = numbers.items
numbers_in (Wide numbers) = numbers.items

-- for how many numbers there is room
abbrev pub room_of : Numbers → ℕ
room_of (Narrow numbers) = vec_capacity numbers
room_of (Wide numbers) = vec_capacity numbers
