use Rattle.std.proofs.Common.{◌≡◌, ◌+◌, ◌≤◌, ◌++◌, ℕ, List, length}
use Rattle.kc_io.specs.Sources.{Seen}
use Rattle.kc_fastx.specs.Reading.{HasGiven}
use Rattle.kc_fastx.specs.Reads.{Read}
use Rattle.kc_tool.proofs.read_ahead.Reader.read_some.Given as goal

abbrev pub invariant-loop : goal.invariant-loop
invariant-loop g l =
    let seen = g.R.Source.seen in
    record {
      given : (start : Seen) (limit : ℕ) (reads : List Read) → HasGiven start (seen l.fn.source) limit reads l.fn.self.reading
          → HasGiven start (seen l.source) limit (reads ++ l.buffer.reads.items) l.self.reading;
      used : l.fn.self.reading.used + length l.buffer.reads.items ≤ l.self.reading.used;
      counted : length l.buffer.reads.items ≡ l.counter;
    }
