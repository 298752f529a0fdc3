-- A line with a text of any length in it.
use Rattle.std.proofs.Common.{◌≡◌, List, [], ◌∷◌, ◌++◌, ℕ, refl, sym, ◌∙◌, ap, subst, append_assoc, append-nil, codes, Result, Ok, Err, OnErr}
use Rattle.kc_tool.specs.FaultLines.{fault_front, fault_line, fault_name}
use Rattle.kc_tool.specs.declared.tool_faults.ToolFault.{ToolFault}
use Rattle.kc_io.specs.Sinks.{Written, HasTaken, HasBegun, Drains, HandsOver, Writes}
use Rattle.kc_io.proofs.SinksLemmas.{Pending, begin, took_front, began_front, taken_both, drained, last}

-- The sink took a block, and then a text.
pub both_taken : {a b c : Written} {block text : List ℕ} → HasTaken a b block → HasTaken b c text → Drains a c (block ++ text) []
both_taken {a} {b} {c} {block} {text} first second = record {
  front = block ++ text;
  taken = taken_both a b c block text first second;
  split = sym (append-nil (block ++ text));
}

-- The sink failed in the block.
pub failed_first : {a b : Written} {block : List ℕ} (text : List ℕ) → HasBegun a b block → HasBegun a b (block ++ text)
failed_first {a} {b} {block} text begun = began_front a a b (block ++ text) block text (begin a (block ++ text)) begun

-- The sink took the block, and failed in the text.
pub failed_second : {a b c : Written} {block text : List ℕ} → HasTaken a b block → HasBegun b c text → HasBegun a c (block ++ text)
failed_second {a} {b} {c} {block} {text} first begun =
    let pending : Pending a b (block ++ text) text = took_front a a b (block ++ text) block text (begin a (block ++ text)) first in
    began_front a b c (block ++ text) text [] (subst (λ v. Pending a b (block ++ text) v) (sym (append-nil text)) pending) begun

-- What is left of a block was written, with more after it, in either outcome.
pub rest_written : {A E : Type 0} {a b : Written} (c : Written) {block left : List ℕ} (more : List ℕ) (r : Result A E) → Drains a b block left → Writes b c r (left ++ more)
    → Writes a c r (block ++ more)
rest_written {A} {E} {a} {b} c {block} {left} more r drains writes =
    let pending : Pending a b (block ++ more) (left ++ more) = drained (record {
      start = a;
      now = a;
      next = b;
      text = block ++ more;
      rest = block ++ more;
      pending = begin a (block ++ more);
    }) block left more refl drains in
    last a b c (block ++ more) (left ++ more) r (subst (λ v. Pending a b (block ++ more) v) (sym (append-nil (left ++ more))) pending) writes

-- The text after the block was handed over, in either outcome.
pub second_handed : {A E : Type 0} {a b : Written} (c : Written) {block : List ℕ} (text : List ℕ) (r : Result A E) → HasTaken a b block → HandsOver b c r text → OnErr r (HasBegun a c (block ++ text))
second_handed c text (Ok done) first over = tt
second_handed c text (Err fault) first over = failed_second first over

-- A block that was filled step by step, with a text and the end of the line after it, is the line.
pub line_is : (fault : ToolFault) {empty begun block text : List ℕ} → empty ≡ [] → begun ≡ empty ++ codes "kcount: " → block ≡ begun ++ fault_front fault
    → text ≡ fault_name fault → (block ++ text) ++ 10 ∷ [] ≡ fault_line fault
line_is fault {empty} {begun} {block} {text} none first second name =
    ap (λ v. (v ++ text) ++ 10 ∷ []) (second ∙ ap (λ v. v ++ fault_front fault) (first ∙ ap (λ v. v ++ codes "kcount: ") none))
    ∙ ap (λ v. ((codes "kcount: " ++ fault_front fault) ++ v) ++ 10 ∷ []) name ∙ simp append_assoc
