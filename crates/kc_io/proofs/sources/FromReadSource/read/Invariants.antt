use Rattle.std.proofs.Common.{◌≡◌, ◌+◌, ◌≤◌}
use Rattle.std.specs.Io.KnownBytes.{Keeps}
use Rattle.kc_io.specs.Answers.{most_tries}
use Rattle.kc_io.proofs.sources.FromReadSource.read.Given as goal

abbrev pub invariant-reading : goal.invariant-reading
invariant-reading g l = record {
  kept : Keeps l.fn.self.seen.left (g.R.Read.remaining l.self-inside.recorded.stream);
  unheard : l.self-inside.recorded.heard.history ≡ l.fn.self.seen.history;
  interrupted : l.self-inside.recorded.asked.calls.interrupted + l.self-inside.recorded.tries
      ≡ l.fn.self.calls.interrupted + most_tries;
  few : l.self-inside.recorded.tries ≤ most_tries;
  unanswered : l.self-inside.recorded.asked.calls.answered ≡ l.fn.self.calls.answered;
}

abbrev pub decreases-reading : goal.decreases-reading
decreases-reading g l = l.self-inside.recorded.tries
