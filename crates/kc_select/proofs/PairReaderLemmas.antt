-- Two sources that are read in step: the next pair, the end, or a record without a mate.
use Rattle.std.proofs.Common.{◌≡◌, ℕ, Bool, true, false, List, [], ◌∷◌, ◌++◌, refl, sym, subst, Option, Some, None, Ok, Err}
use Rattle.std.proofs.Common.{arith, inl, inr}
use Rattle.std.specs.Prelude.{if◌then◌else◌}
use Rattle.std.proofs.lemmas.List.{map_push}
use Rattle.std.proofs.lemmas.List.Elements.{All-push}
use Rattle.kc_io.specs.Sources.{Seen}
use Rattle.kc_fastx.specs.Lines.{Line}
use Rattle.kc_fastx.specs.Reads.{Read}
use Rattle.kc_fastx.specs.Reading.{Stand, first_stand}
use Rattle.kc_fastx.specs.Titles.{Record, record_of, HasGivenRecords, GivesRecord}
use Rattle.kc_fastx.proofs.TitlesLemmas.{records_none}
use Rattle.kc_select.specs.declared.pair_fault.PairFault.TheVariants.{Unpaired}
use Rattle.kc_select.specs.declared.sides.Sides.{Sides}
use Rattle.kc_select.specs.Pairs.{Pair, pair_of, firsts, seconds, are_mates, AreMates}
use Rattle.kc_select.specs.SelectingPairs.{HaveGivenPairs, GivesFirst, MeetsNone}
use Rattle.kc_select.specs.PairReaders.{PairReader, pair_at, GivesPair}

pub pairs_none : (start : Sides Seen) (limit : ℕ)
    → HaveGivenPairs start start limit [] (record { first = first_stand limit; second = first_stand limit })
pairs_none start limit = record {
  first = records_none start.first limit;
  second = records_none start.second limit;
  mates = λ k d below. absurd (omega (arith, below));
}

mates_push : (these : List Pair) (this : Pair) → AreMates these → are_mates this.first.title this.second.title ≡ true
    → AreMates (these ++ this ∷ [])
mates_push these this before one =
    All-push (λ (p : Pair). are_mates p.first.title p.second.title ≡ true) these this before one

pub first_given : {start now : Seen} {limit : ℕ} {records : List Record} {stand : Stand}
    → HasGivenRecords start now limit records stand → GivesFirst start now limit records
first_given {stand = stand} given = (stand, given)

-- the reads of a source meet no fault if it gave one more, or none
pub none_met : (start now : Seen) (limit : ℕ) (records : List Record) (stand : Stand) (title : Line) (next : Option Read)
    → GivesRecord start now limit records stand title (Ok next) → MeetsNone start now limit records
none_met start now limit records stand title (Some read) g = inl (record_of title read, (stand, g))
none_met start now limit records stand title None g = inr g.2

module _ (start old now : Sides Seen) (limit : ℕ) (these : List Pair) (before : Sides Stand)
    (h : HaveGivenPairs start old limit these before) (reader : PairReader) (number : ℕ) where
  given_two : (first second : Read) (b : Bool) → are_mates reader.titles.first reader.titles.second ≡ b
      → HasGivenRecords start.first now.first limit (firsts these ++ record_of reader.titles.first first ∷ []) reader.stands.first
      → HasGivenRecords start.second now.second limit (seconds these ++ record_of reader.titles.second second ∷ [])
      reader.stands.second
      → GivesPair start now limit these reader number
      (if b then Ok (Some (record { first = first; second = second })) else Err (Unpaired number))
  given_two first second true is one other =
      let this : Pair = pair_of reader.titles (record { first = first; second = second }) in
      record {
        first = subst (λ v. HasGivenRecords start.first now.first limit v reader.stands.first)
            (sym (map_push (λ (p : Pair). p.first) these this)) one;
        second = subst (λ v. HasGivenRecords start.second now.second limit v reader.stands.second)
            (sym (map_push (λ (p : Pair). p.second) these this)) other;
        mates = mates_push these this h.mates is;
      }
  given_two first second false is one other =
      let this : Pair = pair_of reader.titles (record { first = first; second = second }) in
      λ numbered. (numbered, inl (this, (reader.stands.first, one), (reader.stands.second, other), is))

  pub given_next : (one other : Option Read)
      → GivesRecord start.first now.first limit (firsts these) reader.stands.first reader.titles.first (Ok one)
      → GivesRecord start.second now.second limit (seconds these) reader.stands.second reader.titles.second (Ok other)
      → GivesPair start now limit these reader number (pair_at reader.titles number one other)
  given_next (Some first) (Some second) f s =
      given_two first second (are_mates reader.titles.first reader.titles.second) refl f s
  given_next (Some first) None f s =
      λ numbered. (numbered, inr (inl ((record_of reader.titles.first first, (reader.stands.first, f)), s.2)))
  given_next None (Some second) f s =
      λ numbered. (numbered, inr (inr (f.2, (record_of reader.titles.second second, (reader.stands.second, s)))))
  given_next None None f s = (
    record { first = f.0; second = s.0; mates = h.mates },
    (f.1, s.1),
    record { first = f.2; second = s.2; mates = h.mates },
  )
