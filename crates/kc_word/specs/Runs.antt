-- Runs of N in a piece: the start and the length of each.
-- Source: this project's own.
use Rattle.std.specs.Prelude.{◌≡◌, ℕ, Bool, true, ◌+◌, ◌<◌}
use Rattle.std.specs.Prelude.{◌≤◌, ◌&&◌, nat_le, nat_lt, List, [], ◌∷◌, length, drop}
use Rattle.std.specs.List.{list_any}
use Rattle.kc_word.specs.declared.runs.Run.{Run}

-- the index after a run
abbrev pub run_end : Run → ℕ
run_end run = run.start + run.length

-- whether an index is in a run, and whether it is in one of the runs
abbrev pub is_in_run : Run → ℕ → Bool
is_in_run run i = nat_le run.start i && nat_lt i (run_end run)

unfoldable pub is_in_runs : List Run → ℕ → Bool
is_in_runs runs i = list_any (λ run. is_in_run run i) runs

-- the runs lie between two indices in ascending order, none is empty, and no two of them touch
abbrev pub AreRuns : ℕ → ℕ → List Run → Type 0
AreRuns from to [] = Unit {0}
AreRuns from to (run ∷ runs) =
    (from ≤ run.start) × (1 ≤ run.length) × (run_end run ≤ to) × AreRuns (run_end run + 1) to runs

-- the runs with `count` more indices from `at` on, after all their own
pub record AreGrown (runs next : List Run) (at count : ℕ) : Type 0 where
  pub rising : AreRuns 0 (at + count) next
  pub inside : (i : ℕ) → at ≤ i → i < at + count → is_in_runs next i ≡ true
  pub below : (i : ℕ) → i < at → is_in_runs next i ≡ is_in_runs runs i
  pub above : (i : ℕ) → at + count ≤ i → is_in_runs next i ≡ is_in_runs runs i

-- the first of the runs, if there is one, ends at this index or after it
abbrev pub EndBehind : ℕ → List Run → Type 0
EndBehind at [] = Unit {0}
EndBehind at (run ∷ runs) = at ≤ run_end run

-- `next` runs are passed at index `at`: the other runs cover the same indices from `at` on, and the first of them ends
-- at `at` or after it
pub record ArePassed (runs : List Run) (next at : ℕ) : Type 0 where
  pub within : next ≤ length runs
  pub rising : (to : ℕ) × AreRuns 0 to (drop next runs)
  pub same : (i : ℕ) → at ≤ i → is_in_runs (drop next runs) i ≡ is_in_runs runs i
  pub ahead : EndBehind at (drop next runs)
