use Rattle.std.proofs.Common.{◌≡◌, ◌≤◌, All, length, map, vec_capacity}
use Rattle.std.specs.Prelude.{vec_len}
use Rattle.kc_report.specs.Table.{MaySay}
use Rattle.kc_combine.specs.JudgedTexts.{GiveTablesTo}
use Rattle.kc_combine.specs.LoadedTables.{table_seen}
use Rattle.kc_tool.specs.Commands.{most_table_bytes}
use Rattle.kc_tool.specs.GivenSources.{Keeps, seen_in}
use Rattle.kc_tool.proofs.task_tallies.tables_of.Given as goal

abbrev pub invariant-loop-i : goal.invariant-loop-i
invariant-loop-i g l =
    let seen = seen_in g.R.Source.seen g.F.Source.seen in
    record {
      given : GiveTablesTo (λ seen. seen) l.i most_table_bytes (seen l.fn.sources) (seen l.sources) (map table_seen l.tables.items);
      origins : All (λ table. MaySay table.origin) l.tables.items;
      as_many : length (seen l.sources) ≡ length (seen l.fn.sources);
      kept : Keeps g.R.Source.seen g.F.Source.seen l.fn.sources l.sources;
      room : length (seen l.fn.sources) ≤ vec_capacity l.tables;
      counted : vec_len l.tables ≡ l.i;
    }
