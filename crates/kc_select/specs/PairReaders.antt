-- A reader of pairs: it reads the records of two sources in step.
-- Source: this project's own.
use Rattle.std.specs.Prelude.{◌≡◌, ℕ, ◌+◌, true, List, [], ◌∷◌, ◌++◌, length, Option, Some, None, Result, Ok, Err}
use Rattle.std.specs.Prelude.{if◌then◌else◌}
use Rattle.kc_io.specs.Sources.{Seen}
use Rattle.kc_io.specs.Sinks.{Written, Drains}
use Rattle.kc_io.specs.declared.failures.Failed.{Failed}
use Rattle.kc_fastx.specs.Lines.{Line}
use Rattle.kc_fastx.specs.Reads.{Read}
use Rattle.kc_fastx.specs.Reading.{Stand}
use Rattle.kc_select.specs.declared.pair_fault.PairFault.{PairFault}
use Rattle.kc_select.specs.declared.pair_fault.PairFault.TheVariants.{Unpaired, Write}
use Rattle.kc_select.specs.declared.selection_counts.Selected.{Selected}
use Rattle.kc_select.specs.declared.sides.Sides.{Sides}
use Rattle.kc_select.specs.Pairs.{Pair, PairsSelector, pair_of, are_mates, keeps_pair}
use Rattle.kc_select.specs.SelectingPairs.{HaveGivenPairs, GivePairs, PairingFails}

-- the states of the readers of both sides, and the titles of the pair that was given
pub record PairReader : Type 0 where
  pub stands : Sides Stand
  pub titles : Sides Line

-- The result for the records with this number; a source at its end has none. A pair; or nothing, at both ends; or a
-- record without a mate.
abbrev pub pair_at : Sides Line → ℕ → Option Read → Option Read → Result (Option (Sides Read)) PairFault
pair_at titles number (Some first) (Some second) =
    if are_mates titles.first titles.second then Ok (Some (record { first = first; second = second }))
    else Err (Unpaired number)
pair_at titles number (Some first) None = Err (Unpaired number)
pair_at titles number None (Some second) = Err (Unpaired number)
pair_at titles number None None = Ok None

-- both sources returned their ends
abbrev pub AreEnded : Sides Stand → Type 0
AreEnded stands = (stands.first.ended ≡ true) × (stands.second.ended ≡ true)

-- The result of a reader that had given these pairs: one more pair, with this number; or the end, if all bytes were
-- taken and have exactly those pairs; or why there is no pair.
abbrev pub GivesPair : Sides Seen → Sides Seen → ℕ → List Pair → PairReader → ℕ
    → Result (Option (Sides Read)) PairFault → Type 0
GivesPair start now limit these reader number (Ok (Some reads)) =
    HaveGivenPairs start now limit (these ++ pair_of reader.titles reads ∷ []) reader.stands
GivesPair start now limit these reader number (Ok None) =
    HaveGivenPairs start now limit these reader.stands × AreEnded reader.stands × GivePairs start now limit these
GivesPair start now limit these reader number (Err fault) =
    number ≡ length these + 1 → PairingFails start now limit these fault

-- what is returned if the rest of the texts was written, or if a writer failed
abbrev pub answer_after : Result (Unit {0}) Failed → Result Selected PairFault → Result Selected PairFault
answer_after (Ok done) answer = answer
answer_after (Err failed) answer = Err Write

-- the sinks took prefixes of two texts, and the rest is left
abbrev pub Drain : Sides Written → Sides Written → List ℕ → List ℕ → Sides (List ℕ) → Type 0
Drain from to first second left =
    Drains from.first to.first first left.first × Drains from.second to.second second left.second

-- what is written of a pair: nothing if it isn't kept
abbrev pub text_where_kept : PairsSelector → (Pair → List ℕ) → Pair → List ℕ
text_where_kept selector text this =
    if keeps_pair selector this.first.read this.second.read then text this else []
