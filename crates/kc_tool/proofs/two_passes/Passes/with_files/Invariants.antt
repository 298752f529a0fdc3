use Rattle.std.proofs.Common.{◌≡◌, ◌⊎◌, ◌+◌, ◌≤◌, ◌++◌, [], length, map, vec_capacity}
use Rattle.std.specs.Vec.Iter.{into_iter_items}
use Rattle.kc_tool.specs.NamedSources.{names_of}
use Rattle.kc_tool.proofs.two_passes.Passes.with_files.Given as goal

abbrev pub invariant-files : goal.invariant-files
invariant-files g l =
    let rest = into_iter_items l.file-iterator in
    let first = l.passes.first.items in
    let second = l.passes.second.items in
    record {
      named : map (λ name. name.now) l.passes.names.items ++ names_of rest ≡ names_of l.fn.files.items;
      put : (first ++ second) ++ map (λ file. file.source) rest ≡ map (λ file. file.source) l.fn.files.items;
      split : length first ≤ l.half;
      full : (length first ≡ l.half) ⊎ (second ≡ []);
      count : length l.passes.names.items + length rest ≡ length l.fn.files.items;
      sum : length first + length second + length rest ≡ length l.fn.files.items;
      names_room : length l.fn.files.items ≤ vec_capacity l.passes.names;
      first_room : length l.fn.files.items ≤ vec_capacity l.passes.first;
      second_room : length l.fn.files.items ≤ vec_capacity l.passes.second;
    }
