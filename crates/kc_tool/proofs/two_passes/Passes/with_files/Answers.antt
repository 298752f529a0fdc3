use Rattle.std.proofs.Common.{◌∙◌, ◌++◌, ◌/◌, Bor, List, ℕ, map, length, arith, ap, sym, append-nil}
use Rattle.std.proofs.lemmas.List.{length_push, nil_from_length}
use Rattle.std.specs.Vec.Iter.{into_iter_items}
use Rattle.kc_tool.specs.NamedSources.{names_of}
use Rattle.kc_tool.proofs.TwoPassesLemmas.{as_long_halves, name_next, put_next}
use Rattle.kc_tool.proofs.two_passes.Passes.with_files.Goals as goal

pub files-preserved : goal.files-preserved
files-preserved g c =
    let before = c.files.invariant in
    let passes = c.files.passes in
    let file = c.in-Some.file in
    let rest = into_iter_items c.next.new.self in
    let stepped = c.in-Some.ensures.steps.0 in
    let fewer = ap length stepped in
    let named = c.push.ensures.named in
    let longer = ap length named ∙ length_push passes.names.items file.name in
    let put = put_next _ file.source passes.first.items c.push.new.self.first.items passes.second.items c.push.new.self.second.items
    (map (λ file. file.source) rest) c.push.ensures.put before.split before.full in
    let count = before.count in
    let sum = before.sum in
    let more = put.sum in
    let room = before.names_room in
    let first_room = before.first_room in
    let second_room = before.second_room in
    let same = c.push.ensures.same_room in
    record {
      named = ap (λ xs. map (λ (name : Bor (List ℕ)). name.now) xs ++ names_of rest) named ∙ name_next passes.names.items file rest
          ∙ sym (ap (λ xs. map (λ (name : Bor (List ℕ)). name.now) passes.names.items ++ names_of xs) stepped) ∙ before.named;
      put = put.all ∙ sym (ap (λ xs. (passes.first.items ++ passes.second.items) ++ map (λ file. file.source) xs) stepped) ∙ before.put;
      split = put.split;
      full = put.full;
      count = omega (arith, count, fewer, longer);
      sum = omega (arith, sum, fewer, more);
      names_room = omega (arith, room, same.0);
      first_room = omega (arith, first_room, same.1);
      second_room = omega (arith, second_room, same.2);
    }

pub returns-clause-names : goal.returns-clause-names
returns-clause-names g c =
    let rest = c.files.file-iterator in
    let none = nil_from_length (into_iter_items rest) (sym rest.rest.ok.0 ∙ c.in-None.ensures.steps.0) in
    sym (append-nil _) ∙ sym (ap (λ xs. map (λ (name : Bor (List ℕ)). name.now) c.files.passes.names.items ++ names_of xs) none)
    ∙ c.files.invariant.named

pub returns-clause-sources : goal.returns-clause-sources
returns-clause-sources g c =
    let rest = c.files.file-iterator in
    let none = nil_from_length (into_iter_items rest) (sym rest.rest.ok.0 ∙ c.in-None.ensures.steps.0) in
    let passes = c.files.passes in
    sym (append-nil _) ∙ sym (ap (λ xs. (passes.first.items ++ passes.second.items) ++ map (λ file. file.source) xs) none)
    ∙ c.files.invariant.put

pub returns-clause-halves : goal.returns-clause-halves
returns-clause-halves g c =
    let rest = c.files.file-iterator in
    let none = nil_from_length (into_iter_items rest) (sym rest.rest.ok.0 ∙ c.in-None.ensures.steps.0) in
    let before = c.files.invariant in
    let no = ap length none in
    let sum = before.sum in
    let even = c.requires.even.1 in
    let counted = c.len-half.ensures in
    as_long_halves (c.len-half.result / 2) (length c.args.files.items) c.files.passes.first.items c.files.passes.second.items
    (omega (arith, sum, no)) (omega (arith, even, counted, c.args.files.ok)) before.split before.full
