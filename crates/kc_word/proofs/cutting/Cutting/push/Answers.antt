use Rattle.std.proofs.Common.{rules, map, ◌≡◌, ◌+◌, ◌-◌, ◌≤◌, ◌++◌, ◌∷◌, [], ◌⊎◌, inl, inr, ⊎_elim, ℕ, List, slice_range, length, refl, ap, sym, ◌∙◌, subst, arith}
use Rattle.std.proofs.lemmas.Bool.{cases_lt}
use Rattle.std.proofs.lemmas.List.{map_push}
use Rattle.std.proofs.lemmas.Result.{err_from_is_err_and}
use Rattle.kc_kmer.specs.Occurrences.{position_count}
use Rattle.kc_word.specs.Cutting.{position_total}
use Rattle.kc_word.specs.OpenCutting.{OpenCutting, HasCut, HasTaken, HasTakenFront}
use Rattle.kc_word.specs.Shared.{values}
use Rattle.kc_word.proofs.Batching.{HasCut-next, HasCut-more, filled-up, front-left, with_part, with_part-begun, with_part-whole, with_part-k, with_part-size}
use Rattle.kc_word.proofs.cutting.Cutting.push.Goals as goal
use Rattle.kc_word.proofs.cutting.Cutting.push.Goals.{After-min-taken, then-filled-self+in_ok-part+in_ok-push, else-filled-self+in_ok-batch+in_ok-push-2}

pub loop-position-init : goal.loop-position-init
loop-position-init c = record {
  k = refl;
  size = refl;
  within = omega arith;
  alone = inl refl;
  cut = λ pieces taken. subst (HasCut c.args.self.now (pieces ++ c.args.piece.now ∷ [])) (omega arith) (HasCut-next c.args.self.now pieces c.args.piece.now taken);
}

-- the positions of the piece that are cut lie within it
within : (c : After-min-taken) → c.loop-position.position ≤ position_count c.args.self.now.k (length c.args.piece.now)
within c =
    let most = c.loop-position.invariant.within in
    let value = c.positions-count.ensures.value ∙ ap (position_count c.self.inside.k) c.len.ensures in
    let same = ap (λ (w : OpenCutting). w.k) c.self.view_is in
    omega (arith, most, value, same)

-- what a refusal leaves
left : (c : After-min-taken) (now : OpenCutting) → now ≡ c.loop-position.self → (pieces : List (List ℕ)) → HasTaken c.args.self.now pieces
    → HasTakenFront now pieces c.args.piece.now
left c now same pieces taken =
    subst (λ s. HasTakenFront s pieces c.args.piece.now) (sym same)
    (front-left c.args.self.now c.loop-position.self c.args.piece.now c.loop-position.position c.loop-position.invariant.k (within c)
    c.loop-position.invariant.cut pieces taken)

pub returns-in_err-part-clause-refused : goal.returns-in_err-part-clause-refused
returns-in_err-part-clause-refused c =
    let at = (goal.at.returns-in_err-part-clause-refused c).After-min-taken in
    let p = err_from_is_err_and c.from_residual.result c.from_residual.ensures.1 in
    rw p.1 (left at _ refl)

pub returns-in_err-push-clause-k : goal.returns-in_err-push-clause-k
returns-in_err-push-clause-k c = ap (λ (w : OpenCutting). w.k) c.self-in-loop-position.view_is ∙ c.loop-position.invariant.k

pub returns-in_err-push-clause-size : goal.returns-in_err-push-clause-size
returns-in_err-push-clause-size c = ap (λ (w : OpenCutting). w.size) c.self-in-loop-position.view_is ∙ c.loop-position.invariant.size

pub returns-in_err-push-clause-refused : goal.returns-in_err-push-clause-refused
returns-in_err-push-clause-refused c =
    let at = (goal.at.returns-in_err-push-clause-refused c).After-min-taken in
    let p = err_from_is_err_and c.from_residual-in_err-push.result c.from_residual-in_err-push.ensures.1 in
    rw p.1 (left at _ (search rules))

pub returns-in_err-batch-clause-refused : goal.returns-in_err-batch-clause-refused
returns-in_err-batch-clause-refused c =
    let at = (goal.at.returns-in_err-batch-clause-refused c).After-min-taken in
    let p = err_from_is_err_and c.from_residual-in_err-batch.result c.from_residual-in_err-batch.ensures.1 in
    rw p.1 (left at _ refl)

pub returns-in_err-push-2-clause-k : goal.returns-in_err-push-2-clause-k
returns-in_err-push-2-clause-k c = ap (λ (w : OpenCutting). w.k) c.self-in-loop-position.view_is ∙ c.loop-position.invariant.k

pub returns-in_err-push-2-clause-size : goal.returns-in_err-push-2-clause-size
returns-in_err-push-2-clause-size c = ap (λ (w : OpenCutting). w.size) c.self-in-loop-position.view_is ∙ c.loop-position.invariant.size

pub returns-in_err-push-2-clause-refused : goal.returns-in_err-push-2-clause-refused
returns-in_err-push-2-clause-refused c =
    let at = (goal.at.returns-in_err-push-2-clause-refused c).After-min-taken in
    let p = err_from_is_err_and c.from_residual-in_err-push-2.result c.from_residual-in_err-push-2.ensures.1 in
    rw p.1 (left at _ (search rules))

pub loop-position-preserved : goal.loop-position-preserved
loop-position-preserved c =
    let before = c.loop-position.invariant in
    let test = c.loop-position-test.true in
    let count = c.min-taken.ensures in
    let room = c.self-in-loop-position.invariant in
    let filled = ap (λ (w : OpenCutting). w.filled) c.self-in-loop-position.view_is in
    let size = ap (λ (w : OpenCutting). w.size) c.self-in-loop-position.view_is in
    let some : 1 ≤ c.min-taken.result = omega (arith, count, test, room) in
    let value = c.positions-count.ensures.value ∙ ap (position_count c.self.inside.k) c.len.ensures in
    let same = ap (λ (w : OpenCutting). w.k) c.self.view_is in
    let within : c.loop-position.position + c.min-taken.result ≤ c.positions-count.result = omega (arith, test, count) in
    let started : (c.loop-position.position ≡ 0) ⊎ (c.loop-position.self.filled ≡ 0) =
    ⊎_elim (λ e. inl e) (λ o. ⊎_elim (λ e. inr e) (λ e. absurd (omega (arith, e, test))) o) before.alone in
    let view = c.self-in-loop-position.view_is in
    let few = c.get-bases.ensures.some in
    let bases = c.get-bases.ensures.value in
    let before_k = before.k in
    let end : c.loop-position.position + c.min-taken.result + (c.get-bases.result - 1) ≡ c.loop-position.position + c.min-taken.result + c.loop-position.self.k - 1 =
    omega (arith, bases, few, same, before_k) in
    let part = slice_range c.args.piece.now c.loop-position.position (c.loop-position.position + c.min-taken.result + c.loop-position.self.k - 1) in
    let k = ap (λ (o : OpenCutting). o.k) view in
    let made : c.if-filled-self.self ≡ with_part c.loop-position.self part c.min-taken.result =
    elim c.if-filled-self.branch [
      | then-filled-self+in_ok-part+in_ok-push w ↦
          let less = w.if-filled-self.true in
          let begun = w.in_ok-push.ensures.items ∙ ap (λ ps. ps ++ w.in_ok-part.part ∷ []) (ap (λ (o : OpenCutting). o.begun) view)
          ∙ ap (λ p. c.loop-position.self.begun ++ p ∷ []) (w.in_ok-part.ensures
          ∙ ap (λ p. p ++ slice_range c.args.piece.now c.loop-position.position (c.loop-position.position + c.min-taken.result + (c.get-bases.result - 1))) w.new.ensures
          ∙ ap (λ e. slice_range c.args.piece.now c.loop-position.position e) end) in
          w.self-is
          ∙ (λ i. record { k = k i; size = size i; batches = (ap (λ (o : OpenCutting). o.batches) view) i; begun = begun i; filled = filled i + c.min-taken.result })
          ∙ sym (with_part-begun c.loop-position.self part c.min-taken.result (omega (arith, less, filled, size)))
      | else-filled-self+in_ok-batch+in_ok-push-2 w ↦
          let most = w.if-filled-self.false in
          let batch = w.in_ok-batch.ensures ∙ ap (λ e. record {
            number = length c.loop-position.self.batches;
            pieces = c.loop-position.self.begun ++ slice_range c.args.piece.now c.loop-position.position e ∷ [];
          }) end in
          let batches = ap (map (λ b. b.value)) w.in_ok-push-2.ensures.items ∙ map_push (λ b. b.value) c.self-in-loop-position.inside.batches.items _
          ∙ ap (λ b. values c.self-in-loop-position.inside.batches.items ++ b ∷ []) batch
          ∙ ap (λ bs. bs ++ record { number = length c.loop-position.self.batches; pieces = c.loop-position.self.begun ++ part ∷ [] } ∷ [])
          (ap (λ (o : OpenCutting). o.batches) view) in
          w.self-is
          ∙ (λ i. record { k = k i; size = size i; batches = batches i; begun = w.clear.ensures.items i; filled = 0 })
          ∙ sym (with_part-whole c.loop-position.self part c.min-taken.result (omega (arith, most, filled, size)))
    ] in
    record {
      k = ap (λ (w : OpenCutting). w.k) made ∙ with_part-k c.loop-position.self _ c.min-taken.result ∙ before.k;
      size = ap (λ (w : OpenCutting). w.size) made ∙ with_part-size c.loop-position.self _ c.min-taken.result ∙ before.size;
      within = within;
      alone = inr (⊎_elim
          (λ h. inr (omega (arith, h, test, count)))
          (λ h. inl (ap (λ (w : OpenCutting). w.filled) made
          ∙ filled-up c.loop-position.self _ c.min-taken.result (omega (arith, h, some, count, filled, size))))
          (cases_lt (c.positions-count.result - c.loop-position.position - 1) c.min-taken.result));
      cut = λ pieces taken.
          subst (λ s. HasCut s (pieces ++ c.args.piece.now ∷ []) (position_total c.args.self.now.k pieces + (c.loop-position.position + c.min-taken.result)))
          (sym made)
          (subst (λ k. HasCut (with_part c.loop-position.self
          (slice_range c.args.piece.now c.loop-position.position (c.loop-position.position + c.min-taken.result + c.loop-position.self.k - 1))
          c.min-taken.result) (pieces ++ c.args.piece.now ∷ []) (position_total k pieces + (c.loop-position.position + c.min-taken.result)))
          before.k
          (HasCut-more c.loop-position.self pieces c.args.piece.now (record {
            position = c.loop-position.position;
            taken = c.min-taken.result;
            some = some;
            within = subst (λ k. c.loop-position.position + c.min-taken.result ≤ position_count k (length c.args.piece.now)) (sym before.k)
                (omega (arith, within, value, same));
            room = omega (arith, some, count, filled, size, room);
            alone = started;
            cut = subst (λ k. HasCut c.loop-position.self (pieces ++ c.args.piece.now ∷ []) (position_total k pieces + c.loop-position.position)) (sym before.k)
                (before.cut pieces taken);
          })));
    }
