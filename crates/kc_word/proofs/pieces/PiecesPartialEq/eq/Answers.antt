use Rattle.std.proofs.Common.{◌≡◌, Decides, ap, sym, ◌∙◌, subst, true≢false}
use Rattle.std.proofs.lemmas.Slice.Eq.{bytes_eq-Decides}
use Rattle.std.specs.Str.{bytes_eq}
use Rattle.std.specs.Cmp.Lexicographic.{pointwise}
use Rattle.kc_word.specs.PackedBatch.{pieces_in}
use Rattle.kc_word.proofs.Splitting.{same-split, other-split}
use Rattle.kc_word.proofs.pieces.PiecesPartialEq.eq.Goals as goal

pub returns-then-eq : goal.returns-then-eq
returns-then-eq c =
    let decided : Decides (bytes_eq c.as_slice-ends.result.now c.as_slice-others.result.now) (c.as_slice-ends.result.now ≡ c.as_slice-others.result.now) =
    bytes_eq-Decides c.as_slice-ends.result.now c.as_slice-others.result.now in
    let told : Decides c.eq-then-eq.result (c.as_slice-ends.result.now ≡ c.as_slice-others.result.now) =
    subst (λ b. Decides b (c.as_slice-ends.result.now ≡ c.as_slice-others.result.now)) (sym c.eq-then-eq.ensures) decided in
    let kept : Decides c.eq-then-eq.result (c.self.inside.ends.items ≡ c.other.inside.ends.items) =
    subst (λ es. Decides c.eq-then-eq.result (c.self.inside.ends.items ≡ es)) c.as_slice-others.ensures.value
    (subst (λ es. Decides c.eq-then-eq.result (es ≡ c.as_slice-others.result.now)) c.as_slice-ends.ensures.value told) in
    same-split c.self.inside.bytes c.other.inside.bytes c.self.inside.ends.items c.other.inside.ends.items c.eq-then-eq.result
    (c.self.invariant, c.other.invariant)
    ((bytes_eq-Decides c.self.inside.bytes c.other.inside.bytes).0 (sym c.eq.ensures ∙ c.if-eq.true)) kept
    ∙ ap (λ ps. pointwise bytes_eq ps (pieces_in c.other.inside.bytes c.other.inside.ends.items)) c.self.view_is
    ∙ ap (pointwise bytes_eq c.args.self.now) c.other.view_is

pub returns-else-eq : goal.returns-else-eq
returns-else-eq c =
    c.if-eq.false
    ∙ other-split c.self.inside.bytes c.other.inside.bytes c.self.inside.ends.items c.other.inside.ends.items (c.self.invariant, c.other.invariant)
    (λ e. true≢false (sym ((bytes_eq-Decides c.self.inside.bytes c.other.inside.bytes).1 e) ∙ sym c.eq.ensures ∙ c.if-eq.false))
    ∙ ap (λ ps. pointwise bytes_eq ps (pieces_in c.other.inside.bytes c.other.inside.ends.items)) c.self.view_is
    ∙ ap (pointwise bytes_eq c.args.self.now) c.other.view_is
