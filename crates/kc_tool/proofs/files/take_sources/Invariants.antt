use Rattle.std.proofs.Common.{◌≡◌, ◌++◌}
use Rattle.std.specs.Vec.Iter.{into_iter_items}
use Rattle.kc_tool.specs.Files.{given_back}
use Rattle.kc_tool.proofs.files.take_sources.Given as goal

abbrev pub invariant-loop-source : goal.invariant-loop-source
invariant-loop-source g l =
    l.files ++ given_back (into_iter_items l.source-iterator) ≡ l.fn.files ++ given_back l.fn.sources.items
