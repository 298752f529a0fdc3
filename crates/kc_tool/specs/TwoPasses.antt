-- The sources of two passes, taken apart: this project's own.
use Rattle.std.specs.Prelude.{◌≡◌, ◌⊎◌, ℕ, ◌<◌, ◌≤◌, List, [], ◌∷◌, ◌++◌, length}

-- the source was appended to the first ones, if there were fewer than `half`, and otherwise to the second ones
abbrev pub PutsInHalf : {F : Type 0} → ℕ → F → List F → List F → List F → List F → Type 0
PutsInHalf half source first first_after second second_after =
    ((length first < half) × (first_after ≡ first ++ source ∷ []) × (second_after ≡ second))
    ⊎ ((half ≤ length first) × (first_after ≡ first) × (second_after ≡ second ++ source ∷ []))
