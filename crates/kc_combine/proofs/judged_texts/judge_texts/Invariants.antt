use Rattle.std.proofs.Common.{◌≡◌, ◌≤◌, ◌^◌, ◌-◌, List, length, map, min, vec_capacity}
use Rattle.std.specs.Prelude.{vec_len}
use Rattle.kc_combine.specs.CombinedTexts.{header_seen}
use Rattle.kc_combine.specs.JudgedTexts.{GiveTablesTo, total_of_all}
use Rattle.kc_combine.specs.MergedTables.{TableSeen}
use Rattle.kc_combine.proofs.judged_texts.judge_texts.Given as goal

abbrev pub invariant-sources : goal.invariant-sources
invariant-sources g l = record {
  given : (tables : List TableSeen) × GiveTablesTo g.S.Source.seen l.i l.limit l.fn.sources l.sources tables
      × (l.headers.items ≡ map header_seen tables) × (l.total ≡ min (total_of_all tables) (2 ^ 64 - 1));
  room : length l.fn.sources ≤ vec_capacity l.headers;
  counted : vec_len l.headers ≡ l.i;
  long : length l.sources ≡ length l.fn.sources;
}
