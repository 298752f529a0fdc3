use Rattle.std.proofs.Common.{◌∙◌, ◌+◌, sym, ap, length, arith, List, ℕ}
use Rattle.std.proofs.lemmas.List.{length_push}
use Rattle.kc_table.specs.Slots.{slot_list}
use Rattle.kc_table.proofs.Contents.{counted_in-some}
use Rattle.kc_table.proofs.SlotSteps.{counted_none, counted_all}
use Rattle.kc_table.proofs.slots.Slots.entry_count.Goals as goal
use Rattle.kc_table.proofs.slots.Slots.entry_count.Goals.{then-is_counted, else-is_counted}

pub loop-index-preserved : goal.loop-index-preserved
loop-index-preserved c = elim c.if-is_counted.branch [
  | then-is_counted w ↦
      let held = c.is_counted.ensures.yes w.if-is_counted.true in
      let more = counted_in-some (slot_list c.args.self.now) c.loop-index.index _ _ held.2 held.3 in
      record {
        so_far = w.counted-is ∙ ap (λ n. n + 1) c.loop-index.invariant.so_far
            ∙ sym (ap (λ (es : List (ℕ × ℕ)). length es) more ∙ length_push _ _);
        most = omega (arith, w.counted-is, c.loop-index.invariant.most);
      }
  | else-is_counted w ↦ record {
    so_far = w.counted-is ∙ c.loop-index.invariant.so_far
        ∙ sym (ap (λ (es : List (ℕ × ℕ)). length es) (counted_none c.args.self.now c.loop-index.index c.loop-index-test.true
        (c.is_counted.ensures.no w.if-is_counted.false)));
    most = omega (arith, w.counted-is, c.loop-index.invariant.most);
  }
]

pub returns : goal.returns
returns c =
    c.loop-index.invariant.so_far
    ∙ ap (λ (es : List (ℕ × ℕ)). length es) (counted_all c.args.self.now c.loop-index.index c.loop-index-test.false)
