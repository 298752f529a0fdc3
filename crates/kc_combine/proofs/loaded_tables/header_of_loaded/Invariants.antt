use Rattle.std.proofs.Common.{◌≡◌, ◌≤◌, ◌^◌, ◌-◌, length, map, min, take, vec_capacity}
use Rattle.kc_combine.specs.CombinedTexts.{header_seen}
use Rattle.kc_combine.specs.JudgedTexts.{total_of_all}
use Rattle.kc_combine.specs.LoadedTables.{table_seen}
use Rattle.kc_combine.proofs.loaded_tables.header_of_loaded.Given as goal

abbrev pub invariant-tables : goal.invariant-tables
invariant-tables l = record {
  headers : l.headers.items ≡ map header_seen (map table_seen (take l.table-index l.tables));
  room : length l.tables ≤ vec_capacity l.headers;
  total : l.total ≡ min (total_of_all (map table_seen (take l.table-index l.tables))) (2 ^ 64 - 1);
}
