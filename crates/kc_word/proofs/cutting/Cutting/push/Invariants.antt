use Rattle.std.proofs.Common.{◌≡◌, ◌+◌, ◌-◌, ◌≤◌, ◌++◌, ◌∷◌, ◌⊎◌, [], ℕ, List}
use Rattle.kc_word.specs.Cutting.{position_total}
use Rattle.kc_word.specs.OpenCutting.{HasCut, HasTaken}
use Rattle.kc_word.proofs.cutting.Cutting.push.Given as goal

abbrev pub invariant-loop-position : goal.invariant-loop-position
invariant-loop-position l = record {
  k : l.self.k ≡ l.fn.self.k;
  size : l.self.size ≡ l.fn.self.size;
  within : l.position ≤ l.count;
  alone : (l.position ≡ 0) ⊎ (l.self.filled ≡ 0) ⊎ (l.position ≡ l.count);
  cut : (pieces : List (List ℕ)) → HasTaken l.fn.self pieces
      → HasCut l.self (pieces ++ l.piece ∷ []) (position_total l.fn.self.k pieces + l.position);
}

abbrev pub decreases-loop-position : goal.decreases-loop-position
decreases-loop-position l = l.count - l.position
