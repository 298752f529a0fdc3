-- Several batches that are booked into a stripe by one call, on the sheet of the shares.
use Rattle.std.proofs.Common.{◌≡◌, ◌⊎◌, ℕ, ◌+◌, ◌^◌, ◌<◌, ◌≤◌, List, [], ◌∷◌, ◌++◌, All, length, length-append, get_or, map, take, append_assoc, Result, Ok, Err, OnOk, OnErr, refl, sym, ap, ap₂, ◌∙◌, subst, arith, ⊎_elim}
use Rattle.std.specs.List.{flat_map}
use Rattle.std.proofs.lemmas.List.{length-map, length-take-le, get_or-map, map-append, map_push, take_more}
use Rattle.std.proofs.lemmas.List.Concat.{length-flat_map}
use Rattle.std.proofs.lemmas.List.Elements.{All-map}
use Rattle.std.proofs.lemmas.List.Folds.{length-flat_map-take}
use Rattle.std.proofs.lemmas.List.Sums.{sum_by-append}
use Rattle.kc_lemmas.proofs.Sums.{sum_by-map}
use Rattle.std.specs.declared.sync.Arc.{Arc}
use Rattle.std.specs.declared.alloc.Global.{Global}
use Rattle.kc_word.specs.Cutting.{NumberedPieces}
use Rattle.kc_word.specs.Shared.{values}
use Rattle.kc_word.specs.declared.batch.Batch.{Batch}
use Rattle.kc_share.specs.declared.entry.Entry.{Entry}
use Rattle.kc_share.specs.declared.entry.KeptStripe.{KeptStripe}
use Rattle.kc_share.specs.Entries.{entry_of, word_total}
use Rattle.kc_share.specs.Share.{ShareSeen, kept_stripe, with_booking, with_entry}
use Rattle.kc_booking.specs.Cut.{StripeCut, keys_of, cut_at}
use Rattle.kc_booking.specs.Cuts.{RoundCut, cuts_in, all_keys_of, sizes_of, round_at, IsOwnRound}
use Rattle.kc_booking.specs.Stripe.{StripeState}
use Rattle.kc_booking.proofs.Parts.{map-map}
use Rattle.kc_stripe.specs.Locked.{cut_entry, journal_entries, with_bookings, with_entries, IsOnSheet}

-- ---- one more cut

pub with_bookings-push : (share : ShareSeen) (cuts : List StripeCut) (cut : StripeCut)
    → with_bookings share (cuts ++ cut ∷ []) ≡ with_booking (with_bookings share cuts) cut.stripe (cut_entry cut)
with_bookings-push share [] cut = refl
with_bookings-push share (first ∷ cuts) cut = with_bookings-push (with_booking share first.stripe (cut_entry first)) cuts cut

-- the share's parts and plan stay
kept_by_bookings : (share : ShareSeen) (cuts : List StripeCut)
    → ((with_bookings share cuts).parts ≡ share.parts) × ((with_bookings share cuts).plan ≡ share.plan)
kept_by_bookings share [] = (refl, refl)
kept_by_bookings share (cut ∷ cuts) = kept_by_bookings (with_booking share cut.stripe (cut_entry cut)) cuts

-- also if they may be refused
pub kept_by_booking : {T E : Type 0} (result : Result T E) (share new : ShareSeen) (cuts : List StripeCut) → OnOk result (new ≡ with_bookings share cuts)
    → OnErr result (new ≡ share) → (new.parts ≡ share.parts) × (new.plan ≡ share.plan)
kept_by_booking (Ok x) share new cuts booked refused =
    let kept = kept_by_bookings share cuts in
    (ap (λ (s : ShareSeen). s.parts) booked ∙ kept.0, ap (λ (s : ShareSeen). s.plan) booked ∙ kept.1)
kept_by_booking (Err e) share new cuts booked refused = (ap (λ (s : ShareSeen). s.parts) refused, ap (λ (s : ShareSeen). s.plan) refused)

pub with_entries-push : (it : KeptStripe) (cuts : List StripeCut) (cut : StripeCut) → with_entries it (cuts ++ cut ∷ []) ≡ with_entry (with_entries it cuts) (cut_entry cut)
with_entries-push it cuts cut =
    ap (kept_stripe it.stripe)
    (ap (λ (es : List Entry). it.journal ++ es) (map_push cut_entry cuts cut) ∙ sym (append_assoc it.journal (map cut_entry cuts) (cut_entry cut ∷ [])))

word_total-entries : (cuts : List StripeCut) → word_total (map cut_entry cuts) ≡ length (flat_map keys_of cuts)
word_total-entries cuts = sum_by-map (λ (e : Entry). e.words) cut_entry cuts ∙ sym (length-flat_map keys_of cuts)

pub word_total-more : (it : KeptStripe) (cuts : List StripeCut) → word_total (with_entries it cuts).journal ≡ word_total it.journal + length (flat_map keys_of cuts)
word_total-more it cuts = omega (arith, sum_by-append (λ (e : Entry). e.words) it.journal (map cut_entry cuts), word_total-entries cuts)

-- the batch of this index, and how many words it has in the stripe
pub record IsNoted (round : RoundCut) (i : ℕ) (batch : NumberedPieces) (words : ℕ) : Type 0 where
  pub within : i < length round.batches
  pub batch_is : batch ≡ get_or round.batches i batch
  pub words_are : words ≡ get_or (sizes_of round) i 0

pub noted_at : {round : RoundCut} {i : ℕ} {batch : Arc Batch Global} {words : ℕ} (batches : List (Arc Batch Global)) → values batches ≡ round.batches
    → i < length batches → batch ≡ get_or batches i batch → words ≡ get_or (sizes_of round) i 0 → IsNoted round i batch.value words
noted_at {round} {i} {batch} {words} batches are within is sizes =
    let value = λ (b : Arc Batch Global). b.value in
    record {
      within = omega (arith, within, length-map batches value, ap length are);
      batch_is = ap value is ∙ sym (get_or-map value batches i batch batch.value within) ∙ ap (λ (bs : List NumberedPieces). get_or bs i batch.value) are;
      words_are = sizes;
    }

module _ {round : RoundCut} {i : ℕ} {batch : NumberedPieces} {words : ℕ} (noted : IsNoted round i batch words) where
  -- its cut
  abbrev pub cut_of : StripeCut
  cut_of = cut_at round.setup batch round.stripe

  pub cut_within : i < length (cuts_in round)
  cut_within = omega (arith, noted.within, length-map round.batches (λ (b : NumberedPieces). cut_at round.setup b round.stripe))

  pub cut_is : get_or (cuts_in round) i cut_of ≡ cut_of
  cut_is =
      get_or-map (λ (b : NumberedPieces). cut_at round.setup b round.stripe) round.batches i batch cut_of noted.within
      ∙ ap (λ (b : NumberedPieces). cut_at round.setup b round.stripe) (sym noted.batch_is)

  pub cuts-more : take (i + 1) (cuts_in round) ≡ take i (cuts_in round) ++ cut_of ∷ []
  cuts-more = take_more (cuts_in round) i cut_of cut_within ∙ ap (λ (cut : StripeCut). take i (cuts_in round) ++ cut ∷ []) cut_is

  words_of_cut : words ≡ length (keys_of cut_of)
  words_of_cut =
      noted.words_are ∙ get_or-map (λ (cut : StripeCut). length (keys_of cut)) (cuts_in round) i cut_of 0 cut_within
      ∙ ap (λ (cut : StripeCut). length (keys_of cut)) cut_is

  pub entry_is : entry_of batch words ≡ cut_entry cut_of
  entry_is = ap (entry_of batch) words_of_cut

  -- its words have room if those of the whole round have
  pub noted_has_room : (it : KeptStripe) → word_total it.journal + length (all_keys_of round) < 2 ^ 64
      → word_total (with_entries it (take i (cuts_in round))).journal + words < 2 ^ 64
  noted_has_room it room =
      omega (
        arith,
        room,
        word_total-more it (take i (cuts_in round)),
        words_of_cut,
        ap (λ (cut : StripeCut). length (keys_of cut)) cut_is,
        length-flat_map-take keys_of (cuts_in round) i cut_of cut_within,
      )

  -- and so has one more entry
  pub one_more_has_room : (it : KeptStripe) → length it.journal + length round.batches < 2 ^ 64
      → length (with_entries it (take i (cuts_in round))).journal + 1 < 2 ^ 64
  one_more_has_room it room =
      omega (
        arith,
        room,
        noted.within,
        length-append it.journal (map cut_entry (take i (cuts_in round))),
        length-map (take i (cuts_in round)) cut_entry,
        length-take-le i (cuts_in round) (omega (arith, cut_within)),
      )

-- ---- the stripe and its keeper

-- a round was booked into a stripe
pub record IsBookedAll {C : Type 0} (old new : StripeState C) (round : RoundCut) : Type 0 where
  pub own : (round.batches ≡ []) ⊎ IsOwnRound old round
  pub same_setup : new.setup ≡ old.setup
  pub same_number : new.number ≡ old.number
  pub journal : new.journal ≡ old.journal ++ round.batches
  pub total : new.total ≡ old.total + length (all_keys_of round)
  pub at_most : new.total ≤ 2 ^ 62

module _ {C : Type 0} (old : StripeState C) (it : KeptStripe) (on_sheet : IsOnSheet old it) (round : RoundCut) where
  own_cuts : (round.batches ≡ []) ⊎ IsOwnRound old round → cuts_in round ≡ cuts_in (round_at old.setup round.batches old.number)
  own_cuts own = ⊎_elim
      (λ (none : round.batches ≡ []).
      ap (map (λ (b : NumberedPieces). cut_at round.setup b round.stripe)) none
      ∙ sym (ap (map (λ (b : NumberedPieces). cut_at old.setup b old.number)) none))
      (λ (own : IsOwnRound old round). λ i. cuts_in (round_at (own.0 i) round.batches (own.1 i)))
      own

  -- each of the cuts is of the kept stripe
  pub cuts_are_kept : (round.batches ≡ []) ⊎ IsOwnRound old round → All (λ (cut : StripeCut). cut.stripe ≡ it.stripe) (cuts_in round)
  cuts_are_kept own =
      subst (All (λ (cut : StripeCut). cut.stripe ≡ it.stripe)) (sym (own_cuts own))
      (All-map (λ (cut : StripeCut). cut.stripe ≡ it.stripe) (λ (b : NumberedPieces). cut_at old.setup b old.number) round.batches (λ k d within. sym on_sheet.number))

  pub all_on_sheet : (new : StripeState C) → IsBookedAll old new round → IsOnSheet new (with_entries it (cuts_in round))
  all_on_sheet new booked = record {
    number = on_sheet.number ∙ sym booked.same_number;
    journal = ap₂ (λ (es more : List Entry). es ++ more) on_sheet.journal
        (ap (map cut_entry) (own_cuts booked.own) ∙ map-map cut_entry (λ (b : NumberedPieces). cut_at old.setup b old.number) round.batches)
        ∙ sym (map-append (λ (b : NumberedPieces). cut_entry (cut_at old.setup b old.number)) old.journal round.batches)
        ∙ (λ i. journal_entries (sym booked.same_setup i) (sym booked.same_number i) (sym booked.journal i));
    total = omega (arith, word_total-more it (cuts_in round), on_sheet.total, booked.total);
    total_at_most = booked.at_most;
  }
