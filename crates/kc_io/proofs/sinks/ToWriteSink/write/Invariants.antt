use Rattle.std.proofs.Common.{◌≡◌, ◌+◌, ◌≤◌}
use Rattle.std.specs.Io.KnownBytes.{Keeps}
use Rattle.kc_io.specs.Answers.{most_tries}
use Rattle.kc_io.proofs.sinks.ToWriteSink.write.Given as goal

abbrev pub invariant-writing : goal.invariant-writing
invariant-writing g l = record {
  kept : Keeps l.fn.self.seen.bytes (g.W.Write.contents l.self-inside.recorded.stream);
  unheard : l.self-inside.recorded.heard.history ≡ l.fn.self.seen.history;
  interrupted : l.self-inside.recorded.asked.calls.interrupted + l.self-inside.recorded.tries
      ≡ l.fn.self.calls.interrupted + most_tries;
  few : l.self-inside.recorded.tries ≤ most_tries;
  unanswered : l.self-inside.recorded.asked.calls.answered ≡ l.fn.self.calls.answered;
}

abbrev pub decreases-writing : goal.decreases-writing
decreases-writing g l = l.self-inside.recorded.tries
