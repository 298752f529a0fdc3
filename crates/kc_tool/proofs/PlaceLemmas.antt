-- Sources that are taken one after another: those before a place were taken, and the others are unchanged.
use Rattle.std.proofs.Common.{◌≡◌, ◌≤◌, ◌<◌, ◌+◌, ◌++◌, ◌∙◌, ℕ, List, [], ◌∷◌, length, get_or, set, refl, sym, ap, ap₂, arith, append_assoc, append-nil, length-append}
use Rattle.std.proofs.lemmas.List.{nil_from_length}
use Rattle.std.proofs.Math.Seq.{get_or-append_seam, set-append_seam}
use Rattle.kc_io.specs.Sources.{Seen}
use Rattle.kc_tool.specs.Tallies.{SourcePlace}

-- So many sources were taken, and those after them are unchanged.
pub record TakenSoFar (old new : List Seen) (number : ℕ) : Type 0 where
  pub done : List Seen
  pub given : List Seen
  pub rest : List Seen
  pub were : old ≡ done ++ rest
  pub are : new ≡ given ++ rest
  pub counted : number ≡ length done
  pub paired : length given ≡ length done

abbrev pub none_taken : (sources : List Seen) → TakenSoFar sources sources 0
none_taken sources = record { done = []; given = []; rest = sources; were = refl; are = refl; counted = refl; paired = refl }

-- The sources that are left begin with the one of this number.
next_of : (d : Seen) {new : List Seen} {number : ℕ} (given rest : List Seen) → new ≡ given ++ rest → number ≡ length given
    → number < length new → (behind : List Seen) × (rest ≡ get_or new number d ∷ behind)
next_of d given [] are counted within =
    absurd (omega (arith, within, ap length are ∙ length-append given [], counted))
next_of d given (here ∷ behind) are counted within =
    let found = ap₂ (λ xs n. get_or xs n d) are counted ∙ get_or-append_seam given here behind d in
    (behind, ap (λ x. x ∷ behind) (sym found))

module _ {old new : List Seen} {number : ℕ} (d later : Seen) (t : TakenSoFar old new number) (within : number < length new) where
  pub next : (behind : List Seen) × (t.rest ≡ get_or new number d ∷ behind)
  next = next_of d t.given t.rest t.are (t.counted ∙ sym t.paired) within

  abbrev pub here : Seen
  here = get_or new number d

  pub changed : set new number later ≡ t.given ++ later ∷ next.0
  changed =
      ap₂ (λ xs n. set xs n later) (t.are ∙ ap (λ v. t.given ++ v) next.1) (t.counted ∙ sym t.paired)
      ∙ set-append_seam t.given here next.0 later

  -- the place of the next source
  abbrev pub next_place : SourcePlace old (set new number later) (number + 1)
  next_place = record {
    before = t.done;
    given = t.given;
    here = here;
    left = later;
    behind = next.0;
    were = t.were ∙ ap (λ v. t.done ++ v) next.1;
    are = changed;
    counted = omega (arith, t.counted);
  }

  -- it was taken too
  abbrev pub one_taken : TakenSoFar old (set new number later) (number + 1)
  one_taken = record {
    done = t.done ++ here ∷ [];
    given = t.given ++ later ∷ [];
    rest = next.0;
    were = t.were ∙ ap (λ v. t.done ++ v) next.1 ∙ sym (append_assoc t.done (here ∷ []) next.0);
    are = changed ∙ sym (append_assoc t.given (later ∷ []) next.0);
    counted = omega (arith, t.counted, length-append t.done (here ∷ []));
    paired = omega (arith, t.paired, length-append t.done (here ∷ []), length-append t.given (later ∷ []));
  }

-- All were taken.
pub all_taken : {old new : List Seen} {number : ℕ} (t : TakenSoFar old new number) → length new ≤ number
    → (t.done ≡ old) × (t.given ≡ new)
all_taken {old} {new} t all =
    let joined : length new ≡ length t.given + length t.rest = ap length t.are ∙ length-append t.given t.rest in
    let none : t.rest ≡ [] = nil_from_length t.rest (omega (arith, all, joined, t.counted, t.paired)) in
    (sym (t.were ∙ ap (λ v. t.done ++ v) none ∙ append-nil t.done), sym (t.are ∙ ap (λ v. t.given ++ v) none ∙ append-nil t.given))
