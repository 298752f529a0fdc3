-- Texts that are appended to a block, one after another.
use Rattle.std.proofs.Common.{ℕ, List, [], ◌++◌, sym, ap, ◌∙◌, subst, append_assoc, append-nil}
use Rattle.std.specs.Prelude.{Result, Ok, Err, OnOk, OnErr}
use Rattle.kc_io.specs.Sinks.{Written, HasTaken, HasWritten, HasBegun, HandsOver, Writes, Drains}
use Rattle.kc_io.proofs.SinksLemmas.{begin, taken_both, began_front}

-- more follows the block
pub drains_more : {old new : Written} {block left : List ℕ} → Drains old new block left → (more : List ℕ)
    → Drains old new (block ++ more) (left ++ more)
drains_more {left = left} d more = record {
  front = d.front;
  taken = d.taken;
  split = ap (λ v. v ++ more) d.split ∙ append_assoc d.front left more;
}

pub begins_more : {old new : Written} {block : List ℕ} → HasBegun old new block → (more : List ℕ)
    → HasBegun old new (block ++ more)
begins_more {old = old} {new = new} {block = block} b more =
    began_front old old new (block ++ more) block more (begin old (block ++ more)) b

-- one text and then another was appended to the block
pub drains_both : {a b c : Written} {block mid left : List ℕ} → Drains a b block mid → Drains b c mid left
    → Drains a c block left
drains_both {a = a} {b = b} {c = c} {left = left} d e = record {
  front = d.front ++ e.front;
  taken = taken_both a b c d.front e.front d.taken e.taken;
  split = d.split ∙ ap (λ v. d.front ++ v) e.split ∙ sym (append_assoc d.front e.front left);
}

-- some was put, and then the writer failed
pub drains_begins : {a b c : Written} {block mid : List ℕ} → Drains a b block mid → HasBegun b c mid
    → HasBegun a c block
drains_begins {a = a} {b = b} {c = c} {block = block} {mid = mid} d h =
    began_front a b c block mid []
    (record { front = d.front; whole = d.split ∙ ap (λ v. d.front ++ v) (sym (append-nil mid)); taken = d.taken }) h

-- all was taken, and nothing is left in the block
pub taken_drains : {old new : Written} {text : List ℕ} → HasTaken old new text → Drains old new text []
taken_drains {text = text} t = record { front = text; taken = t; split = sym (append-nil text) }

-- two texts that were put one after the other are one
pub drains_texts : {a b c : Written} {mid left : List ℕ} (block one other : List ℕ) → Drains a b (block ++ one) mid
    → Drains b c (mid ++ other) left → Drains a c (block ++ (one ++ other)) left
drains_texts {a = a} {c = c} {left = left} block one other d e =
    subst (λ v. Drains a c v left) (append_assoc block one other) (drains_both (drains_more d other) e)

-- the writer failed in the second of them, or in the first
pub drains_then_begins : {a b c : Written} {mid : List ℕ} (block one other : List ℕ) → Drains a b (block ++ one) mid
    → HasBegun b c (mid ++ other) → HasBegun a c (block ++ (one ++ other))
drains_then_begins {a = a} {c = c} block one other d h =
    subst (λ v. HasBegun a c v) (append_assoc block one other) (drains_begins (drains_more d other) h)

pub begins_first : {a b : Written} (block one other : List ℕ) → HasBegun a b (block ++ one)
    → HasBegun a b (block ++ (one ++ other))
begins_first {a = a} {b = b} block one other h =
    subst (λ v. HasBegun a b v) (append_assoc block one other) (begins_more h other)

-- what follows from one outcome
pub on_ok : {A E P Q : Type 0} (answer : Result A E) → (P → Q) → OnOk answer P → OnOk answer Q
on_ok (Ok done) f h = f h
on_ok (Err fault) f h = h

pub on_err : {A E P Q : Type 0} (answer : Result A E) → (P → Q) → OnErr answer P → OnErr answer Q
on_err (Ok done) f h = h
on_err (Err fault) f h = f h

-- a text that was handed over failed so
pub handed_err : {A E : Type 0} (old new : Written) (answer : Result A E) (text : List ℕ)
    → HandsOver old new answer text → OnErr answer (HasBegun old new text)
handed_err old new (Ok done) text h = tt
handed_err old new (Err fault) text h = h

-- a text was appended to a block, which is written, or the writer fails then
pub drains_written : {a b c : Written} {text block : List ℕ} → Drains a b text block → HasWritten b c block
    → HasWritten a c text
drains_written {a = a} {b = b} {c = c} {block = block} d w = record {
  taken = subst (λ v. HasTaken a c v) (sym d.split) (taken_both a b c d.front block d.taken w.taken);
  flushed = w.flushed;
}

pub drains_wrote : {A E : Type 0} (a b c : Written) (text block : List ℕ) (answer : Result A E) → Drains a b text block
    → Writes b c answer block → OnOk answer (HasWritten a c text)
drains_wrote a b c text block (Ok done) d w = drains_written d w
drains_wrote a b c text block (Err fault) d w = tt

pub drains_failed : {A E : Type 0} (a b c : Written) (text block : List ℕ) (answer : Result A E) → Drains a b text block
    → Writes b c answer block → OnErr answer (HasBegun a c text)
drains_failed a b c text block (Ok done) d w = tt
drains_failed a b c text block (Err fault) d w = drains_begins d w

-- nothing was taken, and all is left
pub drains_none : (s : Written) (text : List ℕ) → Drains s s text text
drains_none s text = let none = begin s text in record { front = none.front; taken = none.taken; split = none.whole }
