use Rattle.std.proofs.Common.{◌≡◌, ◌++◌, length}
use Rattle.kc_io.specs.Sinks.{Drains}
use Rattle.kc_select.specs.Profiles.{name_of, run_lines}
use Rattle.kc_select.specs.CountWalks.{runs_left}
use Rattle.kc_select.proofs.profile_text.put_profile.Given as goal

-- of the lines that were to be put a prefix was taken, and after it are those of the block and of the runs that are
-- left
abbrev pub invariant-runs : goal.invariant-runs
invariant-runs g l = record {
  name : l.name ≡ name_of l.fn.title;
  drained : Drains (g.W.Sink.seen l.fn.writer) (g.W.Sink.seen l.writer)
      (l.fn.block ++ run_lines (name_of l.fn.title) (runs_left l.fn.walk))
      (l.block ++ run_lines (name_of l.fn.title) (runs_left l.walk));
}

abbrev pub decreases-runs : goal.decreases-runs
decreases-runs g l = length (runs_left l.walk)
