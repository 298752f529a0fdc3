use Rattle.std.proofs.Common.{◌+◌, ◌-◌, ◌*◌, ◌/◌, ◌%◌, ◌^◌, bit_and, ap, sym, ◌∙◌, refl, arith}
use Rattle.std.proofs.lemmas.Bool.{cond-true, cond-false}
use Rattle.std.proofs.lemmas.Nat.{and_le_r}
use Rattle.kc_word.specs.declared.rolled.Rolled.{Rolled}
use Rattle.kc_word.specs.Walking.{Walking, IsWalking, IsNext, behind_next}
use Rattle.kc_word.proofs.Counting.{forward-fits, backward-fits, forward-masked, top-shifted}
use Rattle.kc_word.proofs.WalkLemmas.{IsWalking-more, word-taken, no-word-taken}
use Rattle.kc_word.proofs.rolled.Rolled.push.Goals as goal
use Rattle.kc_word.proofs.rolled.Rolled.push.Goals.{Joined-code, then-code, else-code}

pub overflow_mul-self : goal.overflow_mul-self
overflow_mul-self c =
    let walks = c.requires.1.walks in
    let same = ap (λ r. r.k) walks.rule in
    let value = c.get-k.ensures.value ∙ c.k.ensures in
    let most = c.get-k.ensures.fits in
    let small = forward-fits (omega (arith, same, value, most)) walks.rolled in
    omega (arith, small)

pub overflow_add-self : goal.overflow_add-self
overflow_add-self c =
    let walks = c.requires.1.walks in
    let same = ap (λ r. r.k) walks.rule in
    let value = c.get-k.ensures.value ∙ c.k.ensures in
    let most = c.get-k.ensures.fits in
    let small = forward-fits (omega (arith, same, value, most)) walks.rolled in
    let digit = and_le_r c.args.code 3 in
    omega (arith, small, digit)

pub overflow_add-self-2 : goal.overflow_add-self-2
overflow_add-self-2 c =
    let walks = c.requires.1.walks in
    let same = c.get-k.ensures.value ∙ c.k.ensures ∙ ap (λ r. r.k) walks.rule in
    let some = c.get-k.ensures.some in
    let most = c.get-k.ensures.fits in
    let small = backward-fits (bit_and c.args.code 3) c.get-k.result same (omega (arith, same, some)) (omega (arith, same, most)) walks.rolled in
    omega (arith, small)

-- the view of the numbers after the code
rolled : Joined-code → Rolled
rolled c = record {
  rule = c.args.self.now.rule;
  forward = bit_and (c.args.self.now.forward * 4 + bit_and c.args.code 3) (1 * 2 ^ (2 * c.get-k.result) % 2 ^ 64 - 1);
  backward = c.args.self.now.backward / 4 + (3 - bit_and c.args.code 3) * 2 ^ (2 * (c.get-k.result - 1)) % 2 ^ 64;
  run = c.if-code.self;
}

walks : (c : Joined-code) (walking : Walking) → IsNext walking c.args.self.now c.args.code → IsWalking (behind_next walking) (rolled c)
unfolding rolled
walks c walking here =
    let same = c.get-k.ensures.value ∙ c.k.ensures ∙ ap (λ r. r.k) here.walks.rule in
    let some = c.get-k.ensures.some in
    let most = c.get-k.ensures.fits in
    IsWalking-more walking c.args.self.now (rolled c) c.args.code (omega (arith, same, some)) here refl (record {
      forward_is = forward-masked walking.rule.k c.get-k.result _ same (omega (arith, same, most));
      backward_is = ap (λ n. c.args.self.now.backward / 4 + n)
          (top-shifted walking.rule.k c.get-k.result (bit_and c.args.code 3) same (omega (arith, same, some)) (omega (arith, same, most)));
      grows = elim c.if-code.branch [ then-code w ↦ (λ _. w.self-is) | else-code w ↦ (λ h. absurd (omega arith)) ];
      breaks = elim c.if-code.branch [ then-code w ↦ (λ h. absurd (omega arith)) | else-code w ↦ (λ _. w.self-is) ];
    })

pub returns-then-self-k-clause-taken : goal.returns-then-self-k-clause-taken
unfolding rolled
returns-then-self-k-clause-taken c = λ walking here.
    let same = c.get-k.ensures.value ∙ c.k.ensures ∙ ap (λ r. r.k) here.walks.rule in
    let short = c.if-self-k.true in
    no-word-taken walking _ here.left (walks (goal.at.returns-then-self-k-clause-taken c).Joined-code walking here) (omega (arith, same, short))

pub returns-then-both-clause-taken : goal.returns-then-both-clause-taken
unfolding rolled
returns-then-both-clause-taken c = λ walking here.
    let same = c.get-k.ensures.value ∙ c.k.ensures ∙ ap (λ r. r.k) here.walks.rule in
    let long = c.if-self-k.false in
    let both = sym (ap (λ r. r.both) here.walks.rule) ∙ sym c.both.ensures ∙ c.if-both.true in
    word-taken walking _ c.min.result here.left (walks (goal.at.returns-then-both-clause-taken c).Joined-code walking here) (omega (arith, same, long))
    (c.min.ensures ∙ sym (cond-true walking.rule.both _ _ both))

pub returns-clause-taken : goal.returns-clause-taken
unfolding rolled
returns-clause-taken c = λ walking here.
    let same = c.get-k.ensures.value ∙ c.k.ensures ∙ ap (λ r. r.k) here.walks.rule in
    let long = c.if-self-k.false in
    let both = sym (ap (λ r. r.both) here.walks.rule) ∙ sym c.both.ensures ∙ c.if-both.false in
    word-taken walking _ _ here.left (walks (goal.at.returns-clause-taken c).Joined-code walking here) (omega (arith, same, long))
    (sym (cond-false walking.rule.both _ _ both))
