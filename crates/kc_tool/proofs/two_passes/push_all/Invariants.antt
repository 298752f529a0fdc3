use Rattle.std.proofs.Common.{◌≡◌, ◌+◌, ◌≤◌, ◌++◌, length, map, take, vec_capacity}
use Rattle.std.specs.Vec.Iter.{into_iter_items}
use Rattle.kc_tool.specs.NamedSources.{names_of}
use Rattle.kc_tool.proofs.two_passes.push_all.Given as goal

abbrev pub invariant-sources : goal.invariant-sources
invariant-sources g l =
    let rest = into_iter_items l.source-iterator in
    record {
      named : names_of l.files.items ≡ take (length l.files.items) (map (λ name. name.now) l.names);
      put : map (λ file. file.source) l.files.items ++ rest
          ≡ map (λ file. file.source) l.fn.files.items ++ l.fn.sources.items;
      long : length l.files.items + length rest ≤ length l.names;
      room : length l.files.items + length rest ≤ vec_capacity l.files;
      same : vec_capacity l.files ≡ vec_capacity l.fn.files;
    }
