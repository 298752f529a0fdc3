use Rattle.std.proofs.Common.{◌≡◌, ◌+◌, ◌<◌, ◌++◌, ◌∷◌, [], List, ℕ, get_or, length, set, ap, sym, ◌∙◌, subst, arith}
use Rattle.std.proofs.lemmas.List.{get_or_read}
use Rattle.kc_combine.specs.Compared.{capped}
use Rattle.kc_combine.specs.CopySpectra.{HasCells, HasSpectrum, SpectrumSeen}
use Rattle.kc_combine.proofs.SpectrumLemmas.{cells_of_more}
use Rattle.kc_combine.proofs.copy_spectrum.CopySpectrumVisitsWords.visit.Goals as goal

pub returns-clause-more : goal.returns-clause-more
returns-clause-more c = λ words has.
    let high = c.self.inside.high in
    let cells = c.self.inside.cells.items in
    let place = c.place_of_word-place.result in
    let (small, long) = c.self.invariant in
    let is = subst (λ (seen : SpectrumSeen). HasSpectrum seen words) (sym c.self.view_is) has in
    let within : place < length cells = omega (arith, c.place_of_word-place.ensures.within, long) in
    let read : c.index.result.now ≡ get_or cells place 0 = get_or_read cells place c.index.result.now within c.index.ensures 0 in
    let sum : c.saturating_add.result ≡ capped (get_or cells place 0 + 1) =
    c.saturating_add.ensures ∙ ap (λ n. capped (n + 1)) read in
    let same = ap (λ i. set cells i (capped (get_or cells i 0 + 1))) (sym c.place_of_word-place.ensures.place) ∙ ap (set cells place) (sym sum) in
    subst (λ (after : List ℕ). HasCells high after (words ++ c.args.counts.now ∷ [])) same (cells_of_more high cells words c.args.counts.now long is)
