-- The runs of counts that come one at a time.
-- Source: this project's own.
use Rattle.std.specs.Prelude.{ℕ, List, Option, None, Some}
use Rattle.kc_select.specs.declared.run_walk.CountRun.{CountRun}
use Rattle.kc_select.specs.Profiles.{put_before, runs_from}

-- how many counts came, and the run that may go on, if there is one
pub record RunWalking : Type 0 where
  pub at : ℕ
  pub last : Option CountRun

-- the runs that are not complete yet, if these counts come next
unfoldable pub runs_with : Option CountRun → ℕ → List (Option ℕ) → List CountRun
runs_with None at counts = runs_from at counts
runs_with (Some run) at counts = put_before run (runs_from at counts)

abbrev pub runs_behind : RunWalking → List (Option ℕ) → List CountRun
runs_behind walking counts = runs_with walking.last walking.at counts
