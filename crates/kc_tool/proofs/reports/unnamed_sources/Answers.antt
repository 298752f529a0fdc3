use Rattle.std.proofs.Common.{◌∙◌, ◌++◌, [], ◌∷◌, map, sym, ap, append_assoc, append-nil, refl}
use Rattle.std.proofs.lemmas.List.{map-append, nil_from_length}
use Rattle.std.specs.Vec.Iter.{into_iter_items}
use Rattle.kc_tool.specs.NamedSources.{seen_of}
use Rattle.kc_tool.proofs.reports.unnamed_sources.Goals as goal

pub loop-source-init : goal.loop-source-init
loop-source-init g c =
    rw (c.in_ok-named.ensures.items, c.into_iter-source-iterator.ensures.into_iter_gives.0) refl

pub loop-source-preserved : goal.loop-source-preserved
loop-source-preserved g c =
    let seen = g.R.Source.seen in
    let named = c.loop-source.named.items in
    let rest = map seen (into_iter_items c.next.new.self) in
    rw c.in_ok-push.ensures.items (
    ap (λ v. v ++ rest) (map-append (λ source. seen source.source) named (_ ∷ []))
    ∙ append_assoc (seen_of seen named) (seen c.in-Some.source ∷ []) rest
    ∙ ap (λ v. seen_of seen named ++ map seen v) (sym c.in-Some.ensures.steps.0) ∙ c.loop-source.invariant)

pub returns : goal.returns
returns g c =
    let seen = g.R.Source.seen in
    let rest = c.loop-source.source-iterator in
    let none = nil_from_length (into_iter_items rest) (sym rest.rest.ok.0 ∙ c.in-None.ensures.steps.0) in
    sym (append-nil (seen_of seen c.loop-source.named.items))
    ∙ ap (λ v. seen_of seen c.loop-source.named.items ++ map seen v) (sym none) ∙ c.loop-source.invariant
