use Rattle.std.proofs.Common.{◌≡◌, ◌+◌, ◌≤◌, ◌++◌, List, length, vec_capacity}
use Rattle.std.specs.Vec.Iter.{into_iter_items}
use Rattle.kc_combine.specs.declared.ahead.Ahead.{Ahead}
use Rattle.kc_combine.specs.declared.open_table.OpenTable.{OpenTable}
use Rattle.kc_combine.specs.CombinedTexts.{AreJoined}
use Rattle.kc_combine.proofs.combined_texts.with_sources.Given as goal

abbrev pub invariant-sources : goal.invariant-sources
invariant-sources g l =
    let sources = into_iter_items l.source-iterator in
    let openings = into_iter_items l.openings in
    record {
      joined : (later : List (Ahead (OpenTable g.row.S.Denot) _ _))
          → AreJoined l.limit (length l.room.items + 1) sources openings later
          → AreJoined l.limit 1 l.fn.sources.items l.fn.openings.items (l.room.items ++ later);
      long : length openings ≡ length sources;
      room : length l.room.items + length sources ≤ vec_capacity l.room;
    }
