use Rattle.std.proofs.Common.{◌≡◌, length}
use Rattle.kc_tool.specs.GivenSources.{Keeps, seen_in}
use Rattle.kc_tool.proofs.SelectionsLemmas.{SelectedSoFar}
use Rattle.kc_tool.proofs.selected_sources.select_all.Given as goal

abbrev pub invariant-loop-i : goal.invariant-loop-i
invariant-loop-i g l =
    let seen = seen_in g.R.Source.seen g.F.Source.seen in
    record {
      so_far : SelectedSoFar l.selector.rule l.selector.tally (seen l.fn.sources) (seen l.sources) (g.W.Sink.seen l.fn.writer)
          (g.W.Sink.seen l.writer) l.counts l.left l.i;
      as_many : length (seen l.sources) ≡ length (seen l.fn.sources);
      kept : Keeps g.R.Source.seen g.F.Source.seen l.fn.sources l.sources;
    }
