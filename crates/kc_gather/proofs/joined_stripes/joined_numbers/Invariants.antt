use Rattle.std.proofs.Common.{◌≤◌, ℕ, List, length}
use Rattle.kc_gather.specs.JoinedStripes.{first_counts, HaveNumbers, AreNumbersOf}
use Rattle.kc_gather.proofs.joined_stripes.joined_numbers.Given as goal

abbrev pub invariant-loop-part : goal.invariant-loop-part
invariant-loop-part l = (l.part-index ≤ length l.parts)
    × ((counts : ℕ → List ℕ) → HaveNumbers counts l.parts
    → AreNumbersOf (first_counts counts l.part-index) (record { histogram = l.bins; total = l.total; greatest = l.greatest }))
