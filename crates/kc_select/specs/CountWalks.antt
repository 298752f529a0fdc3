-- The counts along a read, base by base.
-- Source: this project's own.
use Rattle.std.specs.Prelude.{◌≡◌, ℕ, List, drop, Option}
use Rattle.kc_fastx.specs.Reads.{Read}
use Rattle.kc_kmer.specs.Rule.{CountingRule}
use Rattle.kc_kmer.specs.Occurrences.{position_count}
use Rattle.kc_tally.specs.Tally.{TallySeen}
use Rattle.kc_word.specs.Cutting.{cleaned}
use Rattle.kc_word.specs.Walking.{Walking, IsWalking}
use Rattle.kc_word.specs.declared.rolled.Rolled.{Rolled}
use Rattle.kc_select.specs.declared.run_walk.CountRun.{CountRun}
use Rattle.kc_select.specs.Profiles.{counts_along}
use Rattle.kc_select.specs.RunWalks.{RunWalking, runs_behind}

-- how words count, their table, the read, how many of its bases were taken, and the runs of the counts so far
pub record CountWalking : Type 0 where
  pub tally : TallySeen
  pub rule : CountingRule
  pub read : Read
  pub taken : ℕ
  pub runs : RunWalking

-- the counts at the positions with words that were not taken yet
unfoldable pub counts_left : CountWalking → List (Option ℕ)
counts_left walking =
    drop (position_count walking.rule.k walking.taken) (counts_along walking.tally walking.rule walking.read)

-- the runs that are not complete yet
unfoldable pub runs_left : CountWalking → List CountRun
runs_left walking = runs_behind walking.runs (counts_left walking)

-- the bases that were taken, N for those that are not usable
abbrev pub place_in : CountWalking → Walking
place_in walking =
    record { rule = walking.rule; bytes = cleaned walking.rule walking.read; taken = walking.taken }

pub record IsCountWalking (walking : CountWalking) (rolled : Rolled) : Type 0 where
  pub place : IsWalking (place_in walking) rolled
  pub at : walking.runs.at ≡ position_count walking.rule.k walking.taken
