use Rattle.std.proofs.Common.{◌≡◌, ◌-◌, ◌++◌, ◌∷◌, [], List, ℕ, map, length, slice_range, ap, sym, ◌∙◌, arith}
use Rattle.std.proofs.lemmas.List.{map_push, take_all}
use Rattle.kc_word.specs.OpenCutting.{OpenCutting}
use Rattle.kc_word.specs.Shared.{values}
use Rattle.kc_word.proofs.Batching.{finished-all, finished-last, occurrences-cut, words-cut}
use Rattle.kc_word.proofs.cutting.Cutting.finish.Goals as goal

pub returns-in_default-clause-cutting : goal.returns-in_default-clause-cutting
returns-in_default-clause-cutting c = λ pieces taken.
    let k = ap (λ (w : OpenCutting). w.k) c.self.view_is in
    let size = ap (λ (w : OpenCutting). w.size) c.cutting.view_is in
    let filled = ap (λ (w : OpenCutting). w.filled) c.cutting.view_is in
    let begun = ap (λ (w : OpenCutting). length w.begun) c.cutting.view_is in
    let some = c.get-some.ensures.some in
    let room = c.cutting.invariant in
    let long = c.cutting.inside.begun.ok.0 in
    let none = c.in_default.ensures.cases.0 in
    ap (λ (w : OpenCutting). w.batches) c.cutting.view_is
    ∙ finished-all c.args.self pieces (record { bases = omega (arith, k, some); room = omega (arith, size, filled, room); taken = taken })
    (omega (arith, begun, long, none))

pub returns-in_default-clause-occurrences : goal.returns-in_default-clause-occurrences
returns-in_default-clause-occurrences c = λ pieces taken.
    let k = ap (λ (w : OpenCutting). w.k) c.self.view_is in
    let size = ap (λ (w : OpenCutting). w.size) c.cutting.view_is in
    let some = c.get-some.ensures.some in
    let room = c.cutting.invariant in
    occurrences-cut c.args.self.k c.args.self.size pieces (values c.cutting.inside.batches.items) (omega (arith, k, some)) (omega (arith, size, room))
    (returns-in_default-clause-cutting c pieces taken)

pub returns-in_default-clause-words : goal.returns-in_default-clause-words
returns-in_default-clause-words c = λ pieces taken.
    let k = ap (λ (w : OpenCutting). w.k) c.self.view_is in
    let size = ap (λ (w : OpenCutting). w.size) c.cutting.view_is in
    let some = c.get-some.ensures.some in
    let room = c.cutting.invariant in
    words-cut c.args.self.k c.args.self.size pieces (values c.cutting.inside.batches.items) (omega (arith, k, some)) (omega (arith, size, room))
    (returns-in_default-clause-cutting c pieces taken)

pub returns-clause-cutting : goal.returns-clause-cutting
returns-clause-cutting c = λ pieces taken.
    let k = ap (λ (w : OpenCutting). w.k) c.self.view_is in
    let size = ap (λ (w : OpenCutting). w.size) c.cutting.view_is in
    let filled = ap (λ (w : OpenCutting). w.filled) c.cutting.view_is in
    let begun = ap (λ (w : OpenCutting). length w.begun) c.cutting.view_is in
    let batches = ap (λ (w : OpenCutting). w.batches) c.cutting.view_is in
    let some = c.get-some.ensures.some in
    let room = c.cutting.invariant in
    let long = c.cutting.inside.begun.ok.0 in
    let one = c.in-Some.ensures.cases in
    let last = take_all (c.len.result - 0) c.in-Some.last (let count = c.len.ensures in omega (arith, count)) in
    let parts : c.pop.new.self.items ++ slice_range c.in-Some.last 0 c.len.result ∷ [] ≡ c.cutting.inside.begun.items =
    ap (λ part. c.pop.new.self.items ++ part ∷ []) last ∙ sym c.in-Some.ensures.items in
    ap (map (λ batch. batch.value)) c.in_ok-push.ensures.items ∙ map_push (λ batch. batch.value) c.cutting.inside.batches.items _
    ∙ ap (λ b. values c.cutting.inside.batches.items ++ b ∷ []) c.in_ok-batch.ensures
    ∙ ap (λ (ps : List (List ℕ)). values c.cutting.inside.batches.items ++ record { number = length (values c.cutting.inside.batches.items); pieces = ps } ∷ []) parts
    ∙ ap (λ bs. bs ++ record { number = length bs; pieces = c.cutting.inside.begun.items } ∷ []) batches
    ∙ ap (λ (ps : List (List ℕ)). c.args.self.batches ++ record { number = length c.args.self.batches; pieces = ps } ∷ []) (ap (λ (w : OpenCutting). w.begun) c.cutting.view_is)
    ∙ finished-last c.args.self pieces (record { bases = omega (arith, k, some); room = omega (arith, size, filled, room); taken = taken })
    (omega (arith, begun, long, one))

pub returns-clause-occurrences : goal.returns-clause-occurrences
returns-clause-occurrences c = λ pieces taken.
    let k = ap (λ (w : OpenCutting). w.k) c.self.view_is in
    let size = ap (λ (w : OpenCutting). w.size) c.cutting.view_is in
    let some = c.get-some.ensures.some in
    let room = c.cutting.invariant in
    occurrences-cut c.args.self.k c.args.self.size pieces (values c.push.new.self.items) (omega (arith, k, some)) (omega (arith, size, room))
    (returns-clause-cutting c pieces taken)

pub returns-clause-words : goal.returns-clause-words
returns-clause-words c = λ pieces taken.
    let k = ap (λ (w : OpenCutting). w.k) c.self.view_is in
    let size = ap (λ (w : OpenCutting). w.size) c.cutting.view_is in
    let some = c.get-some.ensures.some in
    let room = c.cutting.invariant in
    words-cut c.args.self.k c.args.self.size pieces (values c.push.new.self.items) (omega (arith, k, some)) (omega (arith, size, room))
    (returns-clause-cutting c pieces taken)
