use Rattle.std.proofs.Common.{◌≡◌, ◌&&◌, eqb, Decides, ap, sym, ◌∙◌, subst, true≢false}
use Rattle.std.proofs.lemmas.Slice.Eq.{slice_eq-Decides, bytes_eq-Decides}
use Rattle.std.specs.Str.{bytes_eq}
use Rattle.kc_word.specs.declared.runs.Run.{Run}
use Rattle.kc_word.specs.PackedPiece.{bytes_of}
use Rattle.kc_word.proofs.RunLemmas.{same-run-Decides}
use Rattle.kc_word.proofs.PieceLemmas.{same-kept, other-codes}
use Rattle.kc_word.proofs.piece.PiecePartialEq.eq.Goals as goal

pub returns-then-eq : goal.returns-then-eq
returns-then-eq c =
    let runs : Decides c.eq-then-eq.result (c.as_slice.result.now ≡ c.as_slice-then-eq.result.now) =
    slice_eq-Decides {E = λ (run other : Run). eqb run.start other.start && eqb run.length other.length} same-run-Decides
    c.as_slice.result.now c.as_slice-then-eq.result.now c.eq-then-eq.result c.eq-then-eq.ensures in
    let kept : Decides c.eq-then-eq.result (c.self.inside.runs.items ≡ c.other.inside.runs.items) =
    subst (λ rs. Decides c.eq-then-eq.result (c.self.inside.runs.items ≡ rs)) c.as_slice-then-eq.ensures.value
    (subst (λ rs. Decides c.eq-then-eq.result (rs ≡ c.as_slice-then-eq.result.now)) c.as_slice.ensures.value runs) in
    same-kept c.self.inside.bases c.other.inside.bases c.self.inside.runs.items c.other.inside.runs.items c.eq-then-eq.result
    (c.self.invariant, c.other.invariant)
    ((bytes_eq-Decides c.self.inside.bases c.other.inside.bases).0 (sym c.eq.ensures ∙ c.if-eq.true)) kept
    ∙ ap (λ bytes. bytes_eq bytes (bytes_of c.other.inside.bases c.other.inside.runs.items)) c.self.view_is
    ∙ ap (bytes_eq c.args.self.now) c.other.view_is

pub returns-else-eq : goal.returns-else-eq
returns-else-eq c =
    c.if-eq.false
    ∙ other-codes c.self.inside.bases c.other.inside.bases c.self.inside.runs.items c.other.inside.runs.items c.self.invariant c.other.invariant
    (λ e. true≢false (sym ((bytes_eq-Decides c.self.inside.bases c.other.inside.bases).1 e) ∙ sym c.eq.ensures ∙ c.if-eq.false))
    ∙ ap (λ bytes. bytes_eq bytes (bytes_of c.other.inside.bases c.other.inside.runs.items)) c.self.view_is
    ∙ ap (bytes_eq c.args.self.now) c.other.view_is
