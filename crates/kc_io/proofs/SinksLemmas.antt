-- A text on its way into a sink: what the sink took, and what is left to hand over.
use Rattle.std.proofs.Common.{◌≡◌, ℕ, ◌<◌, false, List, [], ◌++◌, take, drop, refl, sym, ◌∙◌, ap, subst, arith, append_assoc, append-nil}
use Rattle.std.proofs.lemmas.List.{take-append-drop}
use Rattle.std.specs.Io.KnownBytes.{Appends, Keeps}
use Rattle.std.specs.Prelude.{Result, Ok, Err, if◌then◌else◌}
use Rattle.std.proofs.lemmas.Bool.Decides.{nat_tests}
use Rattle.kc_io.specs.History.{History, is_end, after}
use Rattle.kc_io.specs.Sinks.{Written, write_answer, HasTaken, HasBegun, Writes, Drains}
use Rattle.kc_io.proofs.KnownBytesLemmas.{appends_nothing, appends_both, appends_kept}

-- Since the sink was as in start it took a prefix of the text, and the rest is left.
pub record Pending (start now : Written) (text rest : List ℕ) : Type 0 where
  pub front : List ℕ
  pub whole : text ≡ front ++ rest
  pub taken : HasTaken start now front

pub taken_both : (a b c : Written) (x y : List ℕ) → HasTaken a b x → HasTaken b c y → HasTaken a c (x ++ y)
taken_both a b c x y p q = record {
  bytes = appends_both a.bytes b.bytes c.bytes x y p.bytes q.bytes;
  taken = q.taken ∙ ap (λ v. v ++ y) p.taken ∙ append_assoc a.history.bytes x y;
  failures = q.failures ∙ p.failures;
}

pub begin : (s : Written) (text : List ℕ) → Pending s s text text
begin s text = record {
  front = [];
  whole = refl;
  taken = record { bytes = appends_nothing s.bytes; taken = sym (append-nil s.history.bytes); failures = refl };
}

-- The sink took a text, which was at the front of what was left.
pub took_front : (s a b : Written) (text x more : List ℕ) → Pending s a text (x ++ more) → HasTaken a b x → Pending s b text more
took_front s a b text x more p w = record {
  front = p.front ++ x;
  whole = p.whole ∙ sym (append_assoc p.front x more);
  taken = taken_both s a b p.front x p.taken w;
}

regrouped : (a b c d : List ℕ) → a ++ ((b ++ c) ++ d) ≡ (a ++ b) ++ (c ++ d)
regrouped a b c d = simp append_assoc refl

-- The sink failed in such a text.
pub began_front : (s a b : Written) (text x more : List ℕ) → Pending s a text (x ++ more) → HasBegun a b x → HasBegun s b text
began_front s a b text x more p w = record {
  front = p.front ++ w.front;
  rest = w.rest ++ more;
  whole = p.whole ∙ ap (λ v. p.front ++ (v ++ more)) w.whole ∙ regrouped p.front w.front w.rest more;
  bytes = appends_both s.bytes a.bytes b.bytes p.front w.front p.taken.bytes w.bytes;
  taken = w.taken ∙ ap (λ v. v ++ w.front) p.taken.taken ∙ append_assoc s.history.bytes p.front w.front;
  failures = omega (arith, p.taken.failures, w.failures);
}

-- Nothing is left.
pub took_all : (s a : Written) (text : List ℕ) → Pending s a text [] → HasTaken s a text
took_all s a text p = subst (λ v. HasTaken s a v) (sym (p.whole ∙ append-nil p.front)) p.taken

-- The sink took the first n bytes of what was left.
pub took_some : (s a b : Written) (text rest : List ℕ) (n : ℕ) → Pending s a text rest → HasTaken a b (take n rest) → Pending s b text (drop n rest)
took_some s a b text rest n p w =
    took_front s a b text (take n rest) (drop n rest) (subst (λ v. Pending s a text v) (sym (take-append-drop n rest)) p) w

-- A write that took something is no failure.
pub write_some : (h : History) (text : List ℕ) (n : ℕ) → (n ≡ 0 → ⊥) → after h (write_answer (Ok n) text) text ≡ after h (Ok n) text
write_some h text n some =
    let moved : is_end n text ≡ false = grind (arith, nat_tests) in
    ap (λ b. after h (if b then Err (record {}) else Ok n) text) moved

-- A call in the middle of a text: the sink as it was at the start of the text, before the call and after it, and what
-- was left of the text before the call.
pub record SinkCall : Type 0 where
  pub start : Written
  pub now : Written
  pub next : Written
  pub text : List ℕ
  pub rest : List ℕ
  pub pending : Pending start now text rest

-- The sink took the first n bytes of what was left by one write.
pub wrote_some : (c : SinkCall) (n : ℕ) → (n ≡ 0 → ⊥) → Appends c.now.bytes c.next.bytes (take n c.rest)
    → c.next.history ≡ after c.now.history (write_answer (Ok n) c.rest) c.rest
    → Pending c.start c.next c.text (drop n c.rest) × (c.next.history.flushed ≡ c.now.history.flushed)
wrote_some c n some appends history =
    let e : c.next.history ≡ after c.now.history (Ok n) c.rest = history ∙ write_some c.now.history c.rest n some in
    let taken : HasTaken c.now c.next (take n c.rest) = record {
      bytes = appends;
      taken = ap (λ h. h.bytes) e;
      failures = ap (λ h. h.failures) e;
    } in
    (took_some c.start c.now c.next c.text c.rest n c.pending taken, ap (λ h. h.flushed) e)

-- The sink failed, and took nothing.
pub failed : (c : SinkCall) → Keeps c.now.bytes c.next.bytes → c.next.history.bytes ≡ c.now.history.bytes
    → c.now.history.failures < c.next.history.failures → HasBegun c.start c.next c.text
failed c kept same rose = record {
  front = c.pending.front;
  rest = c.rest;
  whole = c.pending.whole;
  bytes = appends_kept c.start.bytes c.now.bytes c.next.bytes c.pending.front c.pending.taken.bytes kept;
  taken = same ∙ c.pending.taken.taken;
  failures = omega (arith, c.pending.taken.failures, rose);
}

-- The sink took some of a block, with more after it.
pub drained : (c : SinkCall) (block left more : List ℕ) → c.rest ≡ block ++ more → Drains c.now c.next block left
    → Pending c.start c.next c.text (left ++ more)
drained c block left more whole d =
    let split : c.rest ≡ d.front ++ (left ++ more) = whole ∙ ap (λ v. v ++ more) d.split ∙ append_assoc d.front left more in
    took_front c.start c.now c.next c.text d.front (left ++ more) (subst (λ v. Pending c.start c.now c.text v) split c.pending) d.taken

-- What is left is one text, which is written now, in either outcome.
pub last : {A E : Type 0} (s a b : Written) (text x : List ℕ) (r : Result A E) → Pending s a text (x ++ []) → Writes a b r x → Writes s b r text
last s a b text x (Ok y) p w = record { taken = took_all s b text (took_front s a b text x [] p w.taken); flushed = w.flushed }
last s a b text x (Err f) p w = began_front s a b text x [] p w
