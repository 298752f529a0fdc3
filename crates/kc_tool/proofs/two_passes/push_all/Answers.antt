use Rattle.std.proofs.Common.{◌≡◌, ◌<◌, ◌∙◌, ◌++◌, ◌∷◌, [], map, length, arith, ap, refl, sym, append_assoc, append-nil}
use Rattle.std.proofs.lemmas.List.{length_push, map_push, nil_from_length}
use Rattle.std.specs.Vec.Iter.{into_iter_items}
use Rattle.kc_tool.proofs.TwoPassesLemmas.{named_next}
use Rattle.kc_tool.proofs.two_passes.push_all.Goals as goal

pub sources-preserved : goal.sources-preserved
sources-preserved g c =
    let before = c.sources.invariant in
    let files = c.sources.files in
    let items = c.push_reserved.ensures.items in
    let longer = ap length items ∙ length_push files.items _ in
    let rest = ap length c.in-Some.ensures.steps.0 in
    let counted = c.len.ensures in
    let left = before.long in
    let at : c.len.result ≡ length files.items = omega (arith, counted, files.ok) in
    let within : length files.items < length c.args.names.now = omega (arith, left, rest) in
    record {
      named = named_next files.items c.push_reserved.new.self.items c.args.names.now c.len.result _ _ items refl before.named within at;
      put = rw items (ap (λ xs. xs ++ into_iter_items c.next.new.self) (map_push _ files.items _)
          ∙ append_assoc (map (λ file. file.source) files.items) (c.in-Some.source ∷ []) (into_iter_items c.next.new.self)
          ∙ sym (ap (λ xs. map (λ file. file.source) files.items ++ xs) c.in-Some.ensures.steps.0) ∙ before.put);
      long = let long = before.long in omega (arith, long, longer, rest);
      room = let room = before.room in omega (arith, room, longer, rest, c.push_reserved.ensures.capacity);
      same = c.push_reserved.ensures.capacity ∙ before.same;
    }

pub returns-clause-sources : goal.returns-clause-sources
returns-clause-sources g c =
    let rest = c.sources.source-iterator in
    let none = nil_from_length (into_iter_items rest) (sym rest.rest.ok.0 ∙ c.in-None.ensures.steps.0) in
    sym (append-nil _) ∙ sym (ap (λ xs. map (λ file. file.source) c.sources.files.items ++ xs) none) ∙ c.sources.invariant.put
