use Rattle.std.proofs.Common.{◌≡◌, ◌-◌, drop, map}
use Rattle.kc_report.specs.Table.{MaySay}
use Rattle.kc_combine.specs.MergedTables.{joined_origins}
use Rattle.kc_combine.proofs.combined_headers.merged_origin.Given as goal

abbrev pub invariant-headers : goal.invariant-headers
invariant-headers l = record {
  joined : l.joined ≡ joined_origins (map (λ header. header.origin) (drop (l.last - l.i) l.headers));
  said : MaySay l.joined;
}
