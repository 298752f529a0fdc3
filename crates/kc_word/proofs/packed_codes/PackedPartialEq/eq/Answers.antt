use Rattle.std.proofs.Common.{◌<◌, ◌^◌, ℕ, get_or, ap, sym, ◌∙◌, subst, ⊎_elim, arith, rules}
use Rattle.std.specs.Str.{bytes_eq}
use Rattle.std.proofs.lemmas.Bool.Decides.{eqb_tells}
use Rattle.kc_word.specs.Packed.{codes_of}
use Rattle.kc_word.proofs.PackedLemmas.{same-packed, other-length}
use Rattle.kc_word.proofs.packed_codes.PackedPartialEq.eq.Goals as goal

pub returns-then-self-other : goal.returns-then-self-other
returns-then-self-other c =
    let small : (k : ℕ) → get_or c.as_slice-numbers.result.now k 0 < 2 ^ 64 = λ k. first_of (omega arith, search rules) in
    let others_small : (k : ℕ) → get_or c.as_slice-others.result.now k 0 < 2 ^ 64 = λ k. first_of (omega arith, search rules) in
    same-packed c.self.inside.numbers.items c.other.inside.numbers.items c.self.inside.len c.other.inside.len c.eq.result (
      λ k. subst (λ ws. get_or ws k 0 < 2 ^ 64) c.as_slice-numbers.ensures.value (small k),
      λ k. subst (λ ws. get_or ws k 0 < 2 ^ 64) c.as_slice-others.ensures.value (others_small k),
    )
    (c.self.invariant, c.other.invariant) (
      c.if-self-other.true,
      c.eq.ensures ∙ ap (λ ws. bytes_eq ws c.as_slice-others.result.now) c.as_slice-numbers.ensures.value
          ∙ ap (bytes_eq c.self.inside.numbers.items) c.as_slice-others.ensures.value,
    )
    ∙ ap (λ codes. bytes_eq codes (codes_of c.other.inside.numbers.items c.other.inside.len)) c.self.view_is
    ∙ ap (bytes_eq c.args.self.now) c.other.view_is

pub returns-else-self-other : goal.returns-else-self-other
returns-else-self-other c =
    ⊎_elim (λ h. absurd (c.if-self-other.false h.1)) (λ h. h.0) (eqb_tells c.self.inside.len c.other.inside.len)
    ∙ sym (other-length c.self.inside.numbers.items c.other.inside.numbers.items c.self.inside.len c.other.inside.len c.if-self-other.false)
    ∙ ap (λ codes. bytes_eq codes (codes_of c.other.inside.numbers.items c.other.inside.len)) c.self.view_is
    ∙ ap (bytes_eq c.args.self.now) c.other.view_is
