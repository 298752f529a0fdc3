use Rattle.std.proofs.Common.{◌≡◌, ◌≤◌, length, map, take, vec_capacity}
use Rattle.std.specs.Prelude.{vec_len}
use Rattle.kc_tool.specs.Files.{OpensAll}
use Rattle.kc_tool.proofs.files.open_files.Given as goal

abbrev pub invariant-loop-name : goal.invariant-loop-name
invariant-loop-name g l = record {
  opens : OpensAll (map (λ name. name.now) (take l.name-index l.names)) l.fn.files l.files l.sources.items;
  room : length l.names ≤ vec_capacity l.sources;
  counted : vec_len l.sources ≡ l.name-index;
}
