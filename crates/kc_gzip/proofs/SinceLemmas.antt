-- What a source has answered since a reader took it over: the effect of one more read, and how two periods join.
use Rattle.std.proofs.Common.{◌≡◌, ℕ, ◌+◌, ◌<◌, List, [], ◌∷◌, ◌++◌, length, take, map, Bool, true, false, cond, eqb, ltb, Option, None, Some, IfSome, Result, Ok, Err, refl, sym, ap, ◌∙◌, append_assoc, append-nil, arith}
use Rattle.std.specs.Prelude.{◌≢◌}
use Rattle.std.specs.Io.KnownBytes.{Consumes, IsAtEnd, ReadConsumes}
use Rattle.std.proofs.KnownBytes.{Consumes-nil, Consumes-trans, Consumes-kept}
use Rattle.std.proofs.lemmas.List.{length-append, map-append}
use Rattle.kc_io.specs.History.{History, no_history, is_end, after}
use Rattle.kc_io.specs.Sources.{Seen}
use Rattle.kc_io.specs.declared.failures.Failed.{Failed}
use Rattle.std.proofs.lemmas.Bool.{eqb-true, ltb-true}
use Rattle.kc_gzip.proofs.CodeLemmas.{both_of}
use Rattle.kc_gzip.specs.Since.{joined, HasAnswered}

-- ---- histories

same-history : (a b : History) → a.bytes ≡ b.bytes → a.ends ≡ b.ends → a.failures ≡ b.failures → a.flushed ≡ b.flushed → a.asked ≡ b.asked → a ≡ b
same-history a b bytes ends failures flushed asked =
    ap (λ x. record { bytes = x; ends = a.ends; failures = a.failures; flushed = a.flushed; asked = a.asked }) bytes
    ∙ ap (λ x. record { bytes = b.bytes; ends = x; failures = a.failures; flushed = a.flushed; asked = a.asked }) ends
    ∙ ap (λ x. record { bytes = b.bytes; ends = b.ends; failures = x; flushed = a.flushed; asked = a.asked }) failures
    ∙ ap (λ x. record { bytes = b.bytes; ends = b.ends; failures = b.failures; flushed = x; asked = a.asked }) flushed
    ∙ ap (λ x. record { bytes = b.bytes; ends = b.ends; failures = b.failures; flushed = b.flushed; asked = x }) asked

pub joined-nothing : (h : History) → joined h no_history ≡ h
joined-nothing h = same-history (joined h no_history) h (append-nil h.bytes) (append-nil h.ends) (omega arith) refl (append-nil h.asked)

map-same : (ns : List ℕ) → map (λ n. 0 + n) ns ≡ ns
map-same [] = refl
map-same (n ∷ ns) =
    let first : 0 + n ≡ n = omega arith in
    ap (λ k. k ∷ map (λ n. 0 + n) ns) first ∙ ap (λ ks. n ∷ ks) (map-same ns)

pub nothing-joined : (h : History) → h.flushed ≡ 0 → joined no_history h ≡ h
nothing-joined h unflushed = same-history (joined no_history h) h refl (map-same h.ends) (omega arith) (sym unflushed) refl

moved-twice : (a b : List ℕ) (ns : List ℕ) → map (λ n. length (a ++ b) + n) ns ≡ map (λ n. length a + n) (map (λ n. length b + n) ns)
moved-twice a b [] = refl
moved-twice a b (n ∷ ns) =
    let first : length (a ++ b) + n ≡ length a + (length b + n) = omega (arith, length-append a b) in
    ap (λ k. k ∷ map (λ n. length (a ++ b) + n) ns) first
    ∙ ap (λ ks. (length a + (length b + n)) ∷ ks) (moved-twice a b ns)

pub joined-joined : (a b c : History) → joined (joined a b) c ≡ joined a (joined b c)
joined-joined a b c = same-history (joined (joined a b) c) (joined a (joined b c))
    (append_assoc a.bytes b.bytes c.bytes)
    (ap (λ ns. (a.ends ++ map (λ n. length a.bytes + n) b.ends) ++ ns) (moved-twice a.bytes b.bytes c.ends)
    ∙ append_assoc a.ends (map (λ n. length a.bytes + n) b.ends) (map (λ n. length a.bytes + n) (map (λ n. length b.bytes + n) c.ends))
    ∙ ap (λ ns. a.ends ++ ns) (sym (map-append (λ n. length a.bytes + n) b.ends (map (λ n. length b.bytes + n) c.ends))))
    (omega arith)
    refl
    (append_assoc a.asked b.asked c.asked)

-- one more answer
pub after-joined : (h : History) (result : Result ℕ Failed) (slice : List ℕ) → after h result slice ≡ joined h (after no_history result slice)
after-joined h (Ok n) slice = same-history (after h (Ok n) slice) (joined h (after no_history (Ok n) slice)) refl (ends (is_end n slice)) (omega arith) refl refl
  where
    ends : (b : Bool) → cond b (h.ends ++ length h.bytes ∷ []) h.ends ≡ h.ends ++ map (λ n. length h.bytes + n) (cond b (0 ∷ []) [])
    ends true =
        let place : length h.bytes ≡ length h.bytes + 0 = omega arith in
        ap (λ k. h.ends ++ k ∷ []) place
    ends false = sym (append-nil h.ends)
after-joined h (Err failed) slice = same-history (after h (Err failed) slice) (joined h (after no_history (Err failed) slice)) (sym (append-nil h.bytes)) (sym (append-nil h.ends)) (omega arith) refl refl

-- ---- sources

no-more : (xs : List ℕ) → length xs ≡ 0 → xs ≡ []
no-more [] h = refl
no-more (x ∷ xs) h = absurd (omega (arith, h))

pub answered-nothing : (s : Seen) → HasAnswered s s no_history
answered-nothing s = record {
  history = sym (joined-nothing s.history);
  consumed = Consumes-nil s.left;
  whole = λ some. absurd (some refl);
}

whole-joined : (a b c : Option (List ℕ)) (xs ys es fs : List ℕ) (place : ℕ → ℕ) → Consumes a b xs → Consumes b c ys
    → (es ≢ [] → IfSome a (λ bytes. xs ≡ bytes)) → (fs ≢ [] → IfSome b (λ bytes. ys ≡ bytes)) → es ++ map place fs ≢ [] → IfSome a (λ bytes. xs ++ ys ≡ bytes)
whole-joined None b c xs ys es fs place first second before after some = tt
whole-joined (Some x) None c xs ys es fs place first second before after some = absurd first
whole-joined (Some x) (Some y) None xs ys es fs place first second before after some = absurd second
whole-joined (Some x) (Some y) (Some z) xs ys [] [] place first second before after some = absurd (some refl)
whole-joined (Some x) (Some y) (Some z) xs ys [] (f ∷ fs) place first second before after some =
    let all : ys ≡ y = after (λ none. cc) in
    ap (λ bytes. xs ++ bytes) all ∙ sym first
whole-joined (Some x) (Some y) (Some z) xs ys (e ∷ es) fs place first second before after some =
    let all : xs ≡ x = before (λ none. cc) in
    let none : ys ≡ [] = no-more ys (omega (arith, ap length all, ap length first, ap length second, length-append xs y, length-append ys z)) in
    ap (λ bytes. xs ++ bytes) none ∙ append-nil xs ∙ all

pub answered-joined : (a b c : Seen) (first second : History) → HasAnswered a b first → HasAnswered b c second → HasAnswered a c (joined first second)
answered-joined a b c first second x y = record {
  history = y.history ∙ ap (λ h. joined h second) x.history ∙ joined-joined a.history first second;
  consumed = Consumes-trans a.left b.left c.left first.bytes second.bytes x.consumed y.consumed;
  whole = whole-joined a.left b.left c.left first.bytes second.bytes first.ends second.ends (λ n. length first.bytes + n) x.consumed y.consumed x.whole y.whole;
}

whole-read : (a b : Option (List ℕ)) (n : ℕ) (slice : List ℕ) → Consumes a b (take n slice) → (n ≡ 0 → 0 < length slice → IsAtEnd b)
    → cond {A = List ℕ} (is_end n slice) (0 ∷ []) [] ≢ [] → IfSome a (λ bytes. take n slice ≡ bytes)
whole-read None b n slice first end some = tt
whole-read (Some x) None n slice first end some = absurd first
whole-read (Some x) (Some y) n slice first end some =
    let none : y ≡ [] = ended (is_end n slice) refl some in
    sym (append-nil (take n slice)) ∙ ap (λ bytes. take n slice ++ bytes) (sym none) ∙ sym first
  where
    ended : (b : Bool) → is_end n slice ≡ b → cond {A = List ℕ} b (0 ∷ []) [] ≢ [] → y ≡ []
    ended true is told = end (eqb-true n 0 (both_of (eqb n 0) (ltb 0 (length slice)) is).0) (ltb-true 0 (length slice) (both_of (eqb n 0) (ltb 0 (length slice)) is).1)
    ended false is told = absurd (told refl)

-- one read
pub answered-read : (old new : Seen) (result : Result ℕ Failed) (slice : List ℕ) → new.history ≡ after old.history result slice
    → ReadConsumes old.left new.left result slice → HasAnswered old new (after no_history result slice)
answered-read old new (Ok n) slice is consumes = record {
  history = is ∙ after-joined old.history (Ok n) slice;
  consumed = consumes.0;
  whole = whole-read old.left new.left n slice consumes.0 consumes.1;
}
answered-read old new (Err failed) slice is keeps = record {
  history = is ∙ after-joined old.history (Err failed) slice;
  consumed = Consumes-kept old.left old.left new.left [] (Consumes-nil old.left) keeps;
  whole = λ some. absurd (some refl);
}
