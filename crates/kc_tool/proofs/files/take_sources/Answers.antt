use Rattle.std.proofs.Common.{◌∙◌, ◌++◌, [], ◌∷◌, sym, ap, append_assoc, append-nil}
use Rattle.std.proofs.lemmas.List.{nil_from_length}
use Rattle.std.specs.Vec.Iter.{into_iter_items}
use Rattle.kc_tool.specs.FileEvents.{read}
use Rattle.kc_tool.specs.Files.{given_back}
use Rattle.kc_tool.proofs.files.take_sources.Goals as goal

pub loop-source-init : goal.loop-source-init
loop-source-init g c = ap (λ v. c.args.files.now ++ given_back v) c.into_iter-source-iterator.ensures.into_iter_gives.0

pub loop-source-preserved : goal.loop-source-preserved
loop-source-preserved g c =
    let rest = given_back (into_iter_items c.next.new.self) in
    ap (λ v. v ++ rest) c.take_source.ensures
    ∙ append_assoc c.loop-source.files (read c.in-Some.source.name.now c.in-Some.source.source.history ∷ []) rest
    ∙ ap (λ v. c.loop-source.files ++ given_back v) (sym c.in-Some.ensures.steps.0) ∙ c.loop-source.invariant

pub returns : goal.returns
returns g c =
    let rest = c.loop-source.source-iterator in
    let none = nil_from_length (into_iter_items rest) (sym rest.rest.ok.0 ∙ c.in-None.ensures.steps.0) in
    sym (append-nil c.loop-source.files) ∙ ap (λ v. c.loop-source.files ++ given_back v) (sym none) ∙ c.loop-source.invariant
