use Rattle.std.proofs.Common.{◌≡◌, ◌≤◌, ◌∙◌, ◌+◌, ◌++◌, ◌∷◌, [], sym, ap, length, arith, List, ℕ}
use Rattle.std.proofs.lemmas.List.{length_push}
use Rattle.kc_table.specs.Slots.{slot_list, counted_entries}
use Rattle.kc_table.proofs.Contents.{counted_in, counted_in-some, counted_in-le}
use Rattle.kc_table.proofs.SlotSteps.{counted_none, counted_all}
use Rattle.kc_table.proofs.slots.Slots.entries.Goals as goal

pub loop-index-preserved-in_default : goal.loop-index-preserved-in_default
loop-index-preserved-in_default c = record {
  so_far = c.loop-index.invariant.so_far ∙ sym (counted_none c.args.self.now c.loop-index.index c.loop-index-test.true c.in_default.ensures.none);
  room = c.loop-index.invariant.room;
}

pub push_reserved-requires : goal.push_reserved-requires
push_reserved-requires c =
    let more =
    counted_in-some (slot_list c.args.self.now) c.loop-index.index _ _ c.in-Some.ensures.some.0
    c.in-Some.ensures.some.1 in
    let one : length (counted_in (c.loop-index.index + 1) (slot_list c.args.self.now))
    ≡ length (counted_in c.loop-index.index (slot_list c.args.self.now)) + 1 =
    ap (λ (es : List (ℕ × ℕ)). length es) more ∙ length_push _ _ in
    let most : length (counted_in (c.loop-index.index + 1) (slot_list c.args.self.now)) ≤ length
    (counted_entries c.args.self.now) = counted_in-le (slot_list c.args.self.now) (c.loop-index.index + 1) in
    omega (
      arith,
      c.loop-index.entries.ok.0,
      ap (λ (es : List (ℕ × ℕ)). length es) c.loop-index.invariant.so_far,
      c.loop-index.invariant.room,
    )

pub loop-index-preserved : goal.loop-index-preserved
loop-index-preserved c = record {
  so_far =
      c.push_reserved.ensures.items
      ∙ ap (λ (es : List (ℕ × ℕ)). es ++ c.in-Some.entry ∷ []) c.loop-index.invariant.so_far
      ∙ sym (counted_in-some (slot_list c.args.self.now) c.loop-index.index _ _ c.in-Some.ensures.some.0
      c.in-Some.ensures.some.1);
  room = c.push_reserved.ensures.capacity ∙ c.loop-index.invariant.room;
}

pub returns-clause-entries : goal.returns-clause-entries
returns-clause-entries c =
    c.loop-index.invariant.so_far ∙ counted_all c.args.self.now c.loop-index.index c.loop-index-test.false
