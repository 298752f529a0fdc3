use Rattle.std.proofs.Common.{◌≡◌, ℕ, List, ◌+◌, cond, None}
use Rattle.kc_io.specs.Sources.{Seen}
use Rattle.kc_fastx.specs.Reads.{Read}
use Rattle.kc_fastx.specs.Reading.{HasGiven}
use Rattle.kc_fastx.proofs.TakingLemmas.{Taking}
use Rattle.kc_fastx.proofs.TitlesLemmas.{IsLonger}
use Rattle.kc_fastx.proofs.record_reader.Reading.next_of.Given as goal

abbrev pub invariant-reading : goal.invariant-reading
invariant-reading g l = record {
  given : (start : Seen) (limit : ℕ) (reads : List Read)
      → HasGiven start (g.S.Source.seen l.fn.source) limit reads l.fn.self
      → HasGiven start (g.S.Source.seen l.source) limit reads l.self;
  longer : IsLonger l.fn.self l.self;
  unfailed : l.self.failed ≡ None;
  used : l.self.used ≡ l.fn.self.used;
  taking : Taking l.fn.self l.self;
}

abbrev pub decreases-reading : goal.decreases-reading
decreases-reading g l = l.self.unread.room + cond l.self.ended 0 1
