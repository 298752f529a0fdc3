use Rattle.std.proofs.Common.{string_bytes, false, rules, ◌≡◌, ◌++◌, List, [], ◌∷◌, IfErr, refl, sym, subst, inl, inr, append-nil}
use Rattle.std.proofs.lemmas.Result.{err_from_is_err_and}
use Rattle.kc_tool.specs.FileEvents.{FileEvent, created, wrote}
use Rattle.kc_tool.specs.Files.{HasNoOutput}
use Rattle.kc_tool.specs.Outputs.{is_of_system}
use Rattle.kc_io.specs.History.{no_history}
use Rattle.kc_tool.proofs.OutputLemmas.{for_err, for_ok, lacks_beside, opened_beside}
use Rattle.kc_tool.proofs.outputs.open_output.Goals as goal

pub returns-in_err-text-clause-refused : goal.returns-in_err-text-clause-refused
returns-in_err-text-clause-refused g c =
    let p = err_from_is_err_and c.from_residual.result c.from_residual.ensures.1 in
    let old = c.args.files.now in
    subst (λ r. IfErr r (λ fault. (asked : List FileEvent) × (old ≡ old ++ asked) × HasNoOutput c.args.name.now asked fault)) (sym p.1)
    ([], sym (append-nil old), inr (p.2, inl refl))

pub returns-in-Some-follow-clause-opened : goal.returns-in-Some-follow-clause-opened
returns-in-Some-follow-clause-opened g c =
    let name = c.args.name.now in
    let opens : c.create.new.self ≡ c.args.files.now ++ created name ∷ [] = rw (c.in-Some.is, c.in_ok-text.ensures.ok) at c.in-Ok.ensures.created in
    let closes : c.take_sink.new.self ≡ c.create.new.self ++ wrote name no_history ∷ [] = rw (c.in-Ok.ensures.named, c.in_ok-text.ensures.ok, c.in-Ok.ensures.fresh) at c.take_sink.ensures.asked in
    let plain : is_of_system name ≡ false = search rules in
    for_ok c.open_beside.result c.open_beside.ensures.opened c.open_beside.ensures.path
    (λ output makes to. opened_beside c.args.files.now name (string_bytes c.in-Some-follow.path) opens closes c.in-Some-follow.ensures plain to makes)

pub returns-in-Some-follow-clause-refused : goal.returns-in-Some-follow-clause-refused
returns-in-Some-follow-clause-refused g c =
    let name = c.args.name.now in
    let opens : c.create.new.self ≡ c.args.files.now ++ created name ∷ [] = rw (c.in-Some.is, c.in_ok-text.ensures.ok) at c.in-Ok.ensures.created in
    let closes : c.take_sink.new.self ≡ c.create.new.self ++ wrote name no_history ∷ [] = rw (c.in-Ok.ensures.named, c.in_ok-text.ensures.ok, c.in-Ok.ensures.fresh) at c.take_sink.ensures.asked in
    for_err c.open_beside.result c.open_beside.ensures.refused (λ fault fails. lacks_beside c.args.files.now name (string_bytes c.in-Some-follow.path) opens closes c.in-Some-follow.ensures fault fails)
