use Rattle.std.proofs.Common.{◌≡◌, ◌++◌, ◌∷◌, [], List, ℕ, ap, ◌∙◌, append_assoc}
use Rattle.std.proofs.lemmas.Result.{err_from_is_err_and}
use Rattle.std.specs.Prelude.{decimal}
use Rattle.kc_fastx.specs.Lines.{line_feed}
use Rattle.kc_select.specs.Profiles.{run_numbers, tab}
use Rattle.kc_select.proofs.TextLemmas.{begins_first, begins_more, drains_more, drains_texts, drains_then_begins}
use Rattle.kc_select.proofs.ProfileLemmas.{drains_as}
use Rattle.kc_select.proofs.profile_text.put_run.Goals as goal

pub returns-in_err-put-clause-err : goal.returns-in_err-put-clause-err
returns-in_err-put-clause-err g c =
    let p = err_from_is_err_and c.from_residual.result c.from_residual.ensures.1 in rw p.1
    (begins_first c.args.block.now c.args.name.now (run_numbers c.args.run) c.in_err-put.ensures.err)

pub returns-in_err-make_room-clause-err : goal.returns-in_err-make_room-clause-err
returns-in_err-make_room-clause-err g c =
    let p = err_from_is_err_and c.from_residual-in_err-make_room.result c.from_residual-in_err-make_room.ensures.1 in
    rw p.1
    (drains_then_begins c.args.block.now c.args.name.now (run_numbers c.args.run) c.in_ok-put.ensures.ok
    (begins_more c.in_err-make_room.ensures.err (run_numbers c.args.run)))

-- seven texts that are put one after another are one
seven : (s a b c d e f g : List ℕ) → s ++ a ++ b ++ c ++ d ++ e ++ f ++ g ≡ s ++ (a ++ b ++ c ++ d ++ e ++ f ++ g)
seven s a b c d e f g =
    ap (λ v. v ++ g) (ap (λ v. v ++ f) (ap (λ v. v ++ e) (ap (λ v. v ++ d) (ap (λ v. v ++ c) (append_assoc s a b)
    ∙ append_assoc s (a ++ b) c)
    ∙ append_assoc s (a ++ b ++ c) d)
    ∙ append_assoc s (a ++ b ++ c ++ d) e)
    ∙ append_assoc s (a ++ b ++ c ++ d ++ e) f)
    ∙ append_assoc s (a ++ b ++ c ++ d ++ e ++ f) g

pub returns-clause-ok : goal.returns-clause-ok
returns-clause-ok g c =
    let run = c.args.run in
    let one = tab ∷ [] in
    let all = c.push-4.ensures.pushed
    ∙ ap (λ v. v ++ line_feed ∷ []) (c.push_number-3.ensures.pushed
    ∙ ap (λ v. v ++ decimal run.count) (c.push-3.ensures.pushed
    ∙ ap (λ v. v ++ one) (c.push_number-2.ensures.pushed
    ∙ ap (λ v. v ++ decimal run.end) (c.push-2.ensures.pushed
    ∙ ap (λ v. v ++ one) (c.push_number.ensures.pushed
    ∙ ap (λ v. v ++ decimal run.start) c.push.ensures.pushed)))))
    ∙ seven c.make_room.new.self one (decimal run.start) one (decimal run.end) one (decimal run.count) (line_feed ∷ []) in
    drains_as all
    (drains_texts c.args.block.now c.args.name.now (run_numbers run) c.in_ok-put.ensures.ok
    (drains_more c.in_ok-make_room.ensures.ok (run_numbers run)))
