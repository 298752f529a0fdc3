use Rattle.std.proofs.Common.{◌∙◌, refl, sym, ap, subst, fold, max, List, ℕ}
use Rattle.std.specs.Map.{values_of}
use Rattle.kc_table.specs.Counts.{IsGreatestCount}
use Rattle.kc_table.specs.Slots.{slot_list, key_counts, counted_entries}
use Rattle.kc_table.proofs.Contents.{counted_in, counted_in-some, keys_apart}
use Rattle.kc_table.proofs.Greatest.{max-push, greatest_of_rows}
use Rattle.kc_table.proofs.KeyCounts.{rows_of_entries}
use Rattle.kc_table.proofs.SlotSteps.{counted_none, counted_all, slots_apart}
use Rattle.kc_table.proofs.slots.Slots.greatest.Goals as goal

pub loop-index-preserved-in_default : goal.loop-index-preserved-in_default
loop-index-preserved-in_default c =
    c.loop-index.invariant
    ∙ sym (ap (λ (es : List (ℕ × ℕ)). fold max 0 (values_of es))
    (counted_none c.args.self.now c.loop-index.index c.loop-index-test.true c.in_default.ensures.none))

pub loop-index-preserved : goal.loop-index-preserved
loop-index-preserved c =
    let more =
    counted_in-some (slot_list c.args.self.now) c.loop-index.index _ _ c.in-Some.ensures.some.0
    c.in-Some.ensures.some.1 in
    c.max-greatest.ensures ∙ ap (λ n. max n c.in-Some.entry.1) c.loop-index.invariant
    ∙ max-push (counted_in c.loop-index.index (slot_list c.args.self.now)) c.in-Some.entry.0 c.in-Some.entry.1
    ∙ sym (ap (λ (es : List (ℕ × ℕ)). fold max 0 (values_of es)) more)

pub returns : goal.returns
returns c =
    let table = c.args.self.now in
    let greatest = c.loop-index.invariant
    ∙ ap (λ (es : List (ℕ × ℕ)). fold max 0 (values_of es)) (counted_all table c.loop-index.index c.loop-index-test.false) in
    subst (IsGreatestCount (key_counts table)) (sym greatest)
    (greatest_of_rows (key_counts table) (counted_entries table)
    (rows_of_entries _ (key_counts table) refl (keys_apart _ (slots_apart table.slots.items table.sound)) (counted_entries table) refl))
