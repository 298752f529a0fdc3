use Rattle.std.proofs.Common.{◌≡◌, ◌+◌, ◌≤◌, ◌++◌, length, map, vec_capacity}
use Rattle.std.specs.Vec.Iter.{into_iter_items}
use Rattle.kc_combine.specs.CombinedTexts.{source_of}
use Rattle.kc_combine.proofs.combined_texts.put_back.Given as goal

abbrev pub invariant-tables : goal.invariant-tables
invariant-tables g l = record {
  moved : l.sources.items ++ map source_of (into_iter_items l.ahead-iterator) ≡ map source_of l.fn.aheads.items;
  room : length l.fn.aheads.items ≤ vec_capacity l.sources;
}
