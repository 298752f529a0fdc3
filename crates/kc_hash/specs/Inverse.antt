-- Facts about the two results of `Matrix::invert`.
use Rattle.std.specs.Prelude.{ℕ, List, ⊤}
use Rattle.kc_hash.specs.declared.elimination.Inverse.{Inverse}
use Rattle.kc_hash.specs.declared.elimination.Inverse.TheVariants.{Found, Kernel}

-- the fact holds for the inverse, if one was found
abbrev pub IfFound : Inverse → (List ℕ → Type 0) → Type 0
IfFound (Found m) P = P m
IfFound (Kernel x) P = ⊤

-- the fact holds for the number that is mapped to 0, if one was found
abbrev pub IfKernel : Inverse → (ℕ → Type 0) → Type 0
IfKernel (Found m) P = ⊤
IfKernel (Kernel x) P = P x
