use Rattle.std.proofs.Common.{◌≡◌, ◌∙◌, ◌++◌, ◌∷◌, [], List, ap, append_assoc, append-nil, arith, length, nat_eq, subst, sym, take}
use Rattle.std.proofs.lemmas.Bool.{false≢true}
use Rattle.std.proofs.lemmas.List.{map-append}
use Rattle.std.specs.HashSet.{contains}
use Rattle.kc_word.specs.Cutting.{NumberedPieces}
use Rattle.kc_word.specs.Shared.{values}
use Rattle.kc_booking.specs.Stripe.{KnowsNumbers}
use Rattle.kc_booking.proofs.RoundLemmas.{IsSharedAt, values-more, values-all, known-then}
use Rattle.kc_booking.proofs.stripe.enter_all.Goals as goal

pub loop-batch-init : goal.loop-batch-init
loop-batch-init c = record {
  room = omega (arith, ap length c.deref-batch-items.ensures.value, c.requires.spare);
  known = subst (KnowsNumbers (contains nat_eq c.args.booked.now)) (sym (append-nil (values c.args.journal.now.items))) c.requires.known;
}

pub loop-batch-preserved : goal.loop-batch-preserved
loop-batch-preserved c =
    let at : IsSharedAt c.deref-batch-items.result.now c.loop-batch.batch-index c.batch-item.result = record { within = c.loop-batch-test.true; is = c.batch-item.is } in
    let number : c.number.result ≡ c.batch-item.result.value.number = c.number.ensures ∙ ap (λ (b : NumberedPieces). b.number) c.deref.ensures in
    let journal : List NumberedPieces = values c.args.journal.now.items in
    let front : List NumberedPieces = take c.loop-batch.batch-index (values c.deref-batch-items.result.now) in
    let batch : NumberedPieces = c.batch-item.result.value in
    record {
      room = omega (arith, c.loop-batch.invariant.room, c.in-Ok.ensures.spare);
      known = subst (λ (more : List NumberedPieces). KnowsNumbers (contains nat_eq c.insert.new.self) (journal ++ more)) (sym (values-more at))
          (subst (KnowsNumbers (contains nat_eq c.insert.new.self)) (append_assoc journal front (batch ∷ []))
          (known-then (journal ++ front) batch c.number.result (contains nat_eq c.loop-batch.booked) (contains nat_eq c.insert.new.self)
          c.loop-batch.invariant.known number c.in-Ok.ensures.updates.0));
    }

pub returns-clause-entered : goal.returns-clause-entered
returns-clause-entered c =
    ap values c.in-Ok-append.ensures.items ∙ map-append _ c.args.journal.now.items c.args.batches.items

pub returns-clause-known : goal.returns-clause-known
returns-clause-known c =
    let old : List NumberedPieces = values c.args.journal.now.items in
    let journal : values c.append.new.self.items ≡ old ++ values c.args.batches.items =
    ap values c.in-Ok-append.ensures.items ∙ map-append _ c.args.journal.now.items c.args.batches.items in
    subst (KnowsNumbers (contains nat_eq c.loop-batch.booked))
    (ap (λ (more : List NumberedPieces). old ++ more)
    (values-all c.deref-batch-items.result.now c.loop-batch.batch-index c.loop-batch-test.false ∙ ap values c.deref-batch-items.ensures.value)
    ∙ sym journal)
    c.loop-batch.invariant.known

pub returns-in_default-clause-entered : goal.returns-in_default-clause-entered
returns-in_default-clause-entered c =
    absurd (false≢true (c.in_default.ensures.succeeds (omega (arith, c.loop-batch.invariant.room, c.loop-batch-test.true))))

pub returns-in_default-clause-known : goal.returns-in_default-clause-known
returns-in_default-clause-known c =
    absurd (false≢true (c.in_default.ensures.succeeds (omega (arith, c.loop-batch.invariant.room, c.loop-batch-test.true))))
