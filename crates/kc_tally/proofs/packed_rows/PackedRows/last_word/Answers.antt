use Rattle.std.proofs.Common.{◌≡◌, ◌-◌, ◌<◌, ℕ, List, length, get_or, ◌∙◌, ap, subst}
use Rattle.kc_tally.specs.Searching.{last_word}
use Rattle.kc_tally.proofs.PackingLemmas.{last-packed}
use Rattle.kc_tally.proofs.packed_rows.PackedRows.last_word.Goals as goal

pub returns-in-Some : goal.returns-in-Some
returns-in-Some c =
    let p = c.in-Some.packed.now in
    c.word.ensures
    ∙ last-packed c.self.inside.layout c.self.inside.packed.items c.self.inside.large.items p
    (subst (λ (ps : List ℕ). 0 < length ps) c.deref.ensures.value c.in-Some.ensures.item.3.0)
    (subst (λ (ps : List ℕ). p ≡ get_or ps (length ps - 1) p) c.deref.ensures.value c.in-Some.ensures.item.1)
    ∙ ap last_word c.self.view_is
