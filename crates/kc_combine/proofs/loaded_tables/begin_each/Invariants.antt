use Rattle.std.proofs.Common.{◌≡◌, ◌≤◌, length, map, take, vec_capacity}
use Rattle.std.specs.Prelude.{vec_len}
use Rattle.kc_combine.specs.LoadedTables.{AreBegun, table_seen}
use Rattle.kc_combine.proofs.loaded_tables.begin_each.Given as goal

abbrev pub invariant-tables : goal.invariant-tables
invariant-tables l = record {
  begun : AreBegun (map table_seen (take l.table-index l.tables)) l.aheads.items;
  room : length l.tables ≤ vec_capacity l.aheads;
  counted : vec_len l.aheads ≡ l.table-index;
}
