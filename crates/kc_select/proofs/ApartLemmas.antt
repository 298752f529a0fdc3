-- Two texts on their way to two sinks.
use Rattle.std.proofs.Common.{ℕ, List, [], ◌∷◌, ◌++◌, inl, inr}
use Rattle.std.specs.List.{flat_map}
use Rattle.std.specs.Prelude.{Result, Ok, Err, OnOk, OnErr}
use Rattle.kc_io.specs.Sinks.{Written, HasWritten, HasBegun, Writes}
use Rattle.kc_select.specs.declared.sides.Sides.{Sides}
use Rattle.kc_select.specs.Pairs.{Pair, PairsSelector, kept_pairs}
use Rattle.kc_select.specs.SelectingPairs.{HasFront, HaveWritten, HaveBegun}
use Rattle.kc_select.specs.PairReaders.{Drain, text_where_kept}
use Rattle.kc_select.proofs.PairingLemmas.{put_more, begun_more}
use Rattle.kc_select.proofs.TextLemmas.{drains_none, drains_both, drains_begins, drains_written}

pub front_none : (s : Written) (text : List ℕ) → HasFront s s text
front_none s text = (text, drains_none s text)

-- what a writing call did, by its outcome
pub writes_ok : {A E : Type 0} (old new : Written) (text : List ℕ) (answer : Result A E) → Writes old new answer text
    → OnOk answer (HasWritten old new text)
writes_ok old new text (Ok done) w = w
writes_ok old new text (Err fault) w = tt

pub writes_err : {A E : Type 0} (old new : Written) (text : List ℕ) (answer : Result A E) → Writes old new answer text
    → OnErr answer (HasBegun old new text)
writes_err old new text (Ok done) w = tt
writes_err old new text (Err fault) w = w

module _ (selector : PairsSelector) (f g : Pair → List ℕ) (these : List Pair) (this : Pair) (a b c : Sides Written)
    (blocks : Sides (List ℕ))
    (d : Drain a b (flat_map f (kept_pairs selector these)) (flat_map g (kept_pairs selector these)) blocks) where
  -- one more pair was appended to the blocks, if it is kept
  pub apart_more : (left : Sides (List ℕ))
      → Drain b c (blocks.first ++ text_where_kept selector f this) (blocks.second ++ text_where_kept selector g this) left
      → Drain a c (flat_map f (kept_pairs selector (these ++ this ∷ [])))
      (flat_map g (kept_pairs selector (these ++ this ∷ []))) left
  apart_more left e = (
    put_more selector f these this a.first b.first c.first blocks.first left.first d.0 e.0,
    put_more selector g these this a.second b.second c.second blocks.second left.second d.1 e.1,
  )

  -- a writer failed meanwhile
  pub apart_begun : HaveBegun b c (blocks.first ++ text_where_kept selector f this)
      (blocks.second ++ text_where_kept selector g this)
      → HaveBegun a c (flat_map f (kept_pairs selector (these ++ this ∷ [])))
      (flat_map g (kept_pairs selector (these ++ this ∷ [])))
  apart_begun (inl h) = inl (
    begun_more selector f these this a.first b.first c.first blocks.first d.0 h.0,
    (h.1.0, put_more selector g these this a.second b.second c.second blocks.second h.1.0 d.1 h.1.1),
  )
  apart_begun (inr h) = inr (
    (h.0.0, put_more selector f these this a.first b.first c.first blocks.first h.0.0 d.0 h.0.1),
    begun_more selector g these this a.second b.second c.second blocks.second d.1 h.1,
  )

-- both blocks were written, or a writer failed then
pub apart_wrote : {A E : Type 0} (a b c : Sides Written) (one other : List ℕ) (blocks : Sides (List ℕ))
    (answer : Result A E) → Drain a b one other blocks → OnOk answer (HaveWritten b c blocks.first blocks.second)
    → OnOk answer (HaveWritten a c one other)
apart_wrote a b c one other blocks (Ok done) d w = (drains_written d.0 w.0, drains_written d.1 w.1)
apart_wrote a b c one other blocks (Err fault) d w = tt

failed_so : (a b c : Sides Written) (one other : List ℕ) (blocks : Sides (List ℕ)) → Drain a b one other blocks
    → HaveBegun b c blocks.first blocks.second → HaveBegun a c one other
failed_so a b c one other blocks d (inl h) = inl (drains_begins d.0 h.0, (h.1.0, drains_both d.1 h.1.1))
failed_so a b c one other blocks d (inr h) = inr ((h.0.0, drains_both d.0 h.0.1), drains_begins d.1 h.1)

pub apart_failed : {A E : Type 0} (a b c : Sides Written) (one other : List ℕ) (blocks : Sides (List ℕ))
    (answer : Result A E) → Drain a b one other blocks → OnErr answer (HaveBegun b c blocks.first blocks.second)
    → OnErr answer (HaveBegun a c one other)
apart_failed a b c one other blocks (Ok done) d h = tt
apart_failed a b c one other blocks (Err fault) d h = failed_so a b c one other blocks d h
