use Rattle.std.proofs.Common.{◌∙◌, ◌+◌, ◌++◌, ◌∷◌, [], ap, arith, map, sym, take}
use Rattle.std.proofs.lemmas.List.{map_more}
use Rattle.kc_combine.specs.KeptTables.{whence_of_table}
use Rattle.kc_combine.specs.LoadedTables.{table_seen}
use Rattle.kc_combine.proofs.LoadedTableLemmas.{begun_more}
use Rattle.kc_combine.proofs.loaded_tables.begin_each.Goals as goal

pub tables-preserved : goal.tables-preserved
tables-preserved c =
    let s = c.tables.invariant in
    let before = map table_seen (take c.tables.table-index c.args.tables.now) in
    let more = map_more table_seen c.args.tables.now c.tables.table-index c.table-item.result c.tables-test.true
    ∙ ap (λ table. before ++ table_seen table ∷ []) (sym c.table-item.is) in
    record {
      begun = rw (more, c.push_reserved.ensures.items)
          (begun_more before c.tables.aheads.items (table_seen c.table-item.result) c.in-Ok.ahead s.begun
          (c.in-Ok.ensures.same ∙ ap whence_of_table c.new.ensures.table) (c.in-Ok.ensures.taken c.new.ensures.given));
      room = omega (arith, s.room, c.push_reserved.ensures.capacity);
      counted = omega (arith, s.counted, c.push_reserved.ensures.len);
    }
