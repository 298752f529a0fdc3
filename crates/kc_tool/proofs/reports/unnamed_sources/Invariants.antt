use Rattle.std.proofs.Common.{◌≡◌, ◌++◌, map}
use Rattle.std.specs.Vec.Iter.{into_iter_items}
use Rattle.kc_tool.specs.NamedSources.{seen_of}
use Rattle.kc_tool.proofs.reports.unnamed_sources.Given as goal

abbrev pub invariant-loop-source : goal.invariant-loop-source
invariant-loop-source g l =
    seen_of g.R.Source.seen l.named.items ++ map g.R.Source.seen (into_iter_items l.source-iterator)
    ≡ map g.R.Source.seen l.fn.sources.items
