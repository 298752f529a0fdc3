-- A table and two files that are read together.
use Rattle.std.proofs.Common.{◌≡◌, ◌∙◌, ◌++◌, List, [], ◌∷◌, length, refl, sym, ap, subst, arith, inl, inr, length-append}
use Rattle.std.specs.Prelude.{Result, Some}
use Rattle.kc_io.specs.Sources.{Seen}
use Rattle.kc_select.specs.declared.selection_counts.SelectionCounts.{SelectionCounts}
use Rattle.kc_tool.specs.Commands.{SelectsPairsBy, given_listed}
use Rattle.kc_tool.specs.NamedSources.{seen_of}
use Rattle.kc_tool.specs.PairSelections.{Selecting}
use Rattle.kc_tool.specs.Tallies.{Given, given}
use Rattle.kc_tool.specs.declared.named_sources.NamedSource.{NamedSource}
use Rattle.kc_tool.specs.declared.paired_sources.Pairing.{Pairing}
use Rattle.kc_tool.specs.declared.tool_faults.ToolFault.{ToolFault}

module _ {X : Type 0} where
  -- Three things were taken from the end of a list of three.
  taken_three : (rest : List X) {all one two : List X} (a b c : X) → length all ≡ 3 → all ≡ two ++ c ∷ [] → two ≡ one ++ b ∷ [] → one ≡ rest ++ a ∷ []
      → (all ≡ a ∷ b ∷ c ∷ []) × (rest ≡ [])
  taken_three [] a b c three last middle first = (last ∙ ap (λ v. v ++ c ∷ []) (middle ∙ ap (λ v. v ++ b ∷ []) first), refl)
  taken_three (x ∷ rest) {all} {one} {two} a b c three last middle first =
      let many = length-append two (c ∷ []) in
      let fewer = length-append one (b ∷ []) in
      let some = length-append (x ∷ rest) (a ∷ []) in
      absurd (omega (arith, three, ap length last, ap length middle, ap length first, many, fewer, some))

-- Facts about three files that were taken, and are put back as they are then.
pub pairs_given : {S : Type 0} (seen : S → Seen) (input : Seen) {all two one new : List (NamedSource S)} (rest : List (NamedSource S)) (a b c d e f : NamedSource S) → length all ≡ 3
    → all ≡ two ++ c ∷ [] → two ≡ one ++ b ∷ [] → one ≡ rest ++ a ∷ [] → new ≡ rest ++ d ∷ e ∷ f ∷ [] → (Holds : Given → Given → Type 0)
    → Holds (given (Some (seen a.source)) (seen b.source ∷ seen c.source ∷ [])) (given (Some (seen d.source)) (seen e.source ∷ seen f.source ∷ []))
    → Holds (given_listed input (seen_of seen all)) (given_listed input (seen_of seen new))
pairs_given seen input {all} {two} {one} {new} rest a b c d e f three last middle first back Holds h =
    let taken = taken_three rest a b c three last middle first in
    let whole : new ≡ d ∷ e ∷ f ∷ [] = back ∙ ap (λ v. v ++ d ∷ e ∷ f ∷ []) taken.1 in
    subst (λ v. Holds (given_listed input (seen_of seen v)) (given_listed input (seen_of seen new))) (sym taken.0)
    (subst (λ v. Holds (given (Some (seen a.source)) (seen b.source ∷ seen c.source ∷ [])) (given_listed input (seen_of seen v))) (sym whole) h)

-- What is written to is unchanged, in other words.
pub kept_so : {Kept Other : Type 0} (Selects : Selecting) (pairing : Pairing) (old new : Given) (outcome : Result SelectionCounts ToolFault) → (Kept → Other)
    → SelectsPairsBy Selects Kept pairing old new outcome → SelectsPairsBy Selects Other pairing old new outcome
kept_so Selects pairing old new outcome so (inl (table, tells, inl selects)) = inl (table, tells, inl selects)
kept_so Selects pairing old new outcome so (inl (table, tells, inr (is, same, kept))) = inl (table, tells, inr (is, same, so kept))
kept_so Selects pairing old new outcome so (inr (fault, is, tells, same, kept)) = inr (fault, is, tells, same, so kept)
