use Rattle.std.proofs.Common.{◌≡◌, ◌+◌, ◌-◌, []}
use Rattle.kc_tool.proofs.CleaningLemmas.{PiecesSoFar}
use Rattle.kc_tool.proofs.counted_sources.ReadsInCutting.take.Given as goal

abbrev pub invariant-reads : goal.invariant-reads
invariant-reads g l =
    let seen = g.R.Source.seen in
    record {
      so_far : PiecesSoFar (seen l.fn.source) (seen l.source) l.fn.self.left l.cutter.rule.now l.fn.self.cutting l.self.cutting
          l.reader.reading l.count l.front.reads.items;
      empty : l.back.reads.items ≡ [];
      left : l.self.left ≡ l.fn.self.left;
      sources : l.self.sources ≡ l.fn.self.sources + 1;
      reads : l.self.reads ≡ l.fn.self.reads;
    }

abbrev pub decreases-reads : goal.decreases-reads
decreases-reads g l = l.fn.self.left - l.reader.reading.used
