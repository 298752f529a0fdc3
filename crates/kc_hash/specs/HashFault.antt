-- What an error for a matrix contains.
use Rattle.std.specs.Prelude.{ℕ}
use Rattle.kc_hash.specs.declared.hash.HashFault.{HashFault}
use Rattle.kc_hash.specs.declared.hash.HashFault.TheVariants.{Singular}

-- the number that the matrix maps to 0
abbrev pub mapped_to_zero : HashFault → ℕ
mapped_to_zero (Singular x) = x
