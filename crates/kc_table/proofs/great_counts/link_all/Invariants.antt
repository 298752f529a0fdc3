use Rattle.std.proofs.Common.{◌≡◌, length, vec_capacity}
use Rattle.kc_table.specs.GreatCounts.{counts_in, IsLinked}
use Rattle.kc_table.proofs.great_counts.link_all.Given as goal

abbrev pub invariant-loop-index : goal.invariant-loop-index
invariant-loop-index l = record {
  linked : IsLinked l.heads.items l.entries.items l.index;
  same : counts_in l.entries.items ≡ counts_in l.fn.entries.items;
  as_many : length l.heads.items ≡ length l.fn.heads.items;
  room : vec_capacity l.entries ≡ vec_capacity l.fn.entries;
  heads_room : vec_capacity l.heads ≡ vec_capacity l.fn.heads;
}
