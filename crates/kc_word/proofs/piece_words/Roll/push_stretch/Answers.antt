use Rattle.std.proofs.Common.{◌≡◌, ℕ, ◌+◌, ◌/◌, ◌-◌, ◌*◌, ◌^◌, ◌<◌, ◌≤◌, ◌++◌, length, get_or, bit_and, option_to_list, ap, sym, ◌∙◌, subst, arith}
use Rattle.std.proofs.lemmas.Nat.{and_mask}
use Rattle.std.proofs.lemmas.List.{append-nil, append_assoc}
use Rattle.kc_word.specs.declared.rolled.Rolled.{Rolled}
use Rattle.kc_word.specs.Packed.{code_in}
use Rattle.kc_word.specs.Walking.{Walking, code_of, words_left, IsWalking, IsNext, behind_next}
use Rattle.kc_word.proofs.PieceLemmas.{code-of-byte}
use Rattle.kc_word.proofs.RunLemmas.{AreFree, free-behind, free-most, run-at}
use Rattle.kc_word.proofs.Readings.{reading-long, reading-byte}
use Rattle.kc_word.proofs.piece_words.Roll.push_stretch.Goals as goal
use Rattle.kc_word.proofs.piece_words.Roll.push_stretch.Goals.{Joined-codes, then-codes, else-codes, Joined-count-gt0, then-count-gt0, else-count-gt0}
use Rattle.kc_word.proofs.piece_words.Roll.push_stretch.Goals.{in-Some+in_ok-push, in_default}

-- no more codes are taken than are left, nor than a number has
few-taken : (c : Joined-codes) → c.if-codes.count ≤ c.min-count.result
few-taken c = elim c.if-codes.branch [
  | then-codes w ↦ omega arith
  | else-codes w ↦ omega arith
]

-- none of them lies in a run
free-taken : (c : Joined-codes) → AreFree c.codes.inside.runs.now c.codes.inside.next c.codes.inside.at c.if-codes.count
free-taken c = elim c.if-codes.branch [
  | then-codes w ↦ free-most c.codes.inside.runs.now c.codes.inside.next c.codes.inside.at c.if-codes.count _ c.codes.invariant.passed
      (run-at c.codes.inside.runs.now c.codes.inside.next w.if-codes.true) (omega arith)
  | else-codes w ↦ let passed = c.codes.invariant.passed.within in
      let last = w.if-codes.false in
      free-behind c.codes.inside.runs.now c.codes.inside.next c.codes.inside.at c.if-codes.count c.codes.invariant.passed (omega (arith, passed, last))
]

-- the place after i of the bases
abbrev place : Joined-count-gt0 → ℕ → Walking
place c i = record { rule = c.args.self.rule; bytes = c.args.self.bytes; taken = c.args.self.taken + i }

-- code i of the number is that of the byte at that place
next : (c : Joined-count-gt0) (i : ℕ) (now : Rolled) → i < c.if-codes.count → IsWalking (place c i) now
    → IsNext (place c i) now (bit_and (c.if-count-gt0.number / 2 ^ (62 - 2 * i)) 3)
next c i now h walks =
    let few = few-taken (goal.at.Joined-count-gt0 c).Joined-codes in
    let free = free-taken (goal.at.Joined-count-gt0 c).Joined-codes in
    let long = sym (reading-long c.codes.invariant) ∙ ap (λ r. length r.bytes) c.codes.view_is ∙ ap (λ w. length w.bytes) c.self.view_is in
    let at = ap (λ r. r.taken) c.codes.view_is ∙ ap (λ w. w.taken) c.self.view_is in
    let begun = c.codes.invariant.begun in
    let end = c.codes.invariant.inside in
    let least = c.min-count.ensures in
    let inside : c.codes.inside.at + i < length c.codes.inside.bases.now = omega (arith, end, few, least, h) in
    record {
      walks = walks;
      left = omega (arith, long, at, begun, few, least, h);
      code = and_mask (c.if-count-gt0.number / 2 ^ (62 - 2 * i)) 2
          ∙ code-of-byte c.codes.inside.bases.now c.codes.inside.runs.now (c.codes.inside.at + i) _ c.codes.invariant.piece inside
          (free.free (c.codes.inside.at + i) (omega arith) (omega (arith, h)))
          (elim c.if-count-gt0.branch [
            | then-count-gt0 w ↦ ap (λ n. code_in n i) w.number-is ∙ w.window-number.ensures i (omega (arith, few, least, h)) inside
            | else-count-gt0 w ↦ let none = w.if-count-gt0.false in absurd (omega (arith, none, h))
          ])
          ∙ ap code_of (reading-byte c.codes.invariant i (omega (arith, few, least, h)))
          ∙ ap (λ r. code_of (get_or r.bytes (r.taken + i) 0)) c.codes.view_is
          ∙ ap (λ w. code_of (get_or w.bytes (w.taken + i) 0)) c.self.view_is;
    }

pub push-requires : goal.push-requires
push-requires c =
    let here = (goal.at.push-requires c).Joined-count-gt0 in
    (place here c.loop-i.i, next here c.loop-i.i c.loop-i.rolled c.loop-i-test.true c.loop-i.invariant.walks)

pub loop-i-preserved : goal.loop-i-preserved
loop-i-preserved c =
    let here = (goal.at.loop-i-preserved c).Joined-count-gt0 in
    let walking : Walking = place here c.loop-i.i in
    let taken = c.push.ensures.taken walking (next here c.loop-i.i c.loop-i.rolled c.loop-i-test.true c.loop-i.invariant.walks) in
    let same : c.args.self.taken + c.loop-i.i + 1 ≡ c.args.self.taken + (c.loop-i.i + 1) = omega arith in
    let pushed : c.match-push.words.items ≡ c.loop-i.words.items ++ option_to_list c.push.result = elim c.match-push.branch [
      | in-Some+in_ok-push w ↦ ap (λ v. v.items) w.words-is ∙ w.in_ok-push.ensures.items
          ∙ ap (λ o. c.loop-i.words.items ++ option_to_list o) (sym w.in-Some.is)
      | in_default w ↦ ap (λ v. v.items) w.words-is ∙ sym (append-nil c.loop-i.words.items)
          ∙ ap (λ o. c.loop-i.words.items ++ option_to_list o) (sym w.in_default.is)
    ] in
    record {
      walks = subst (λ n. IsWalking (record { rule = c.args.self.rule; bytes = c.args.self.bytes; taken = n }) c.push.new.self) same taken.walks;
      words = ap (λ n. c.match-push.words.items ++ words_left (record { rule = c.args.self.rule; bytes = c.args.self.bytes; taken = n })) (sym same)
          ∙ ap (λ ws. ws ++ words_left (behind_next walking)) pushed
          ∙ append_assoc c.loop-i.words.items (option_to_list c.push.result) (words_left (behind_next walking))
          ∙ ap (λ ws. c.loop-i.words.items ++ ws) (sym taken.words) ∙ c.loop-i.invariant.words;
    }

pub invariant_of-codes : goal.invariant_of-codes
invariant_of-codes c =
    let few = few-taken (goal.at.invariant_of-codes c).Joined-codes in
    let begun = c.codes.invariant.begun in
    let within = c.codes.invariant.within in
    let least = c.min-count.ensures in
    record {
      piece = c.codes.invariant.piece;
      passed = (free-taken (goal.at.invariant_of-codes c).Joined-codes).passed;
      begun = omega (arith, begun);
      within = omega (arith, within, few, least);
      inside = c.codes.invariant.inside;
      fits = c.codes.invariant.fits;
    }
