use Rattle.std.proofs.Common.{◌≡◌, length}
use Rattle.kc_tool.specs.GivenSources.{Keeps, seen_in}
use Rattle.kc_tool.proofs.CleaningLemmas.{CutSoFar}
use Rattle.kc_tool.proofs.counted_sources.cut_given.Given as goal

abbrev pub invariant-loop-i : goal.invariant-loop-i
invariant-loop-i g l =
    let seen = seen_in g.R.Source.seen g.F.Source.seen in
    record {
      so_far : CutSoFar (seen l.fn.sources) (seen l.sources) l.cutter.rule.now l.size l.cut;
      counted : l.cut.sources ≡ l.i;
      as_many : length (seen l.sources) ≡ length (seen l.fn.sources);
      kept : Keeps g.R.Source.seen g.F.Source.seen l.fn.sources l.sources;
    }
